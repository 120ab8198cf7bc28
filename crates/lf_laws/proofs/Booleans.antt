-- Laws of truth values that std lacks, or has with its premises in another order.
use Rattle.std.proofs.Common.{◌≡◌, Bool, true, false, cond, ◌&&◌, ◌||◌, refl, sym, ◌∙◌, true≢false}

pub clash : (b : Bool) → b ≡ true → b ≡ false → ⊥
clash b e f = true≢false (sym e ∙ f)

-- both

pub and_left : (a b : Bool) → (a && b) ≡ true → a ≡ true
and_left true b e = refl
and_left false b e = e

pub and_right : (a b : Bool) → (a && b) ≡ true → b ≡ true
and_right true b e = e
and_right false b e = absurd (true≢false (sym e))

-- one of two

pub or_from_cond : (b x : Bool) → cond b true x ≡ (b || x)
or_from_cond true x = refl
or_from_cond false x = refl
