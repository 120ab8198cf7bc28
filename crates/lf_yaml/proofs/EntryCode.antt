-- Entries, as the code finds them.
use Rattle.std.proofs.Common.{◌≡◌, ℕ, suc, ◌+◌, ◌<◌, Bool, false, cond, not, List, [], ◌∷◌, Option, Some, None, length, get_or, take, drop, ap, arith, ◌∙◌, ◌&&◌, ◌||◌}
use Rattle.lf_scalar.specs.Cells.{Cell, cell, cells}
use Rattle.lf_scalar.specs.Lines.{is_blank}
use Rattle.lf_scalar.specs.Folding.{trimmed}
use Rattle.lf_scalar.specs.Plain.{before_blank, begins_plain, is_plain_byte, is_sign}
use Rattle.lf_scalar.specs.Splits.{Split, split_of}
use Rattle.lf_yaml.specs.Heads.{key_in, never, Bare}
use Rattle.lf_yaml.specs.reading.Trees.{bare_head, entry_by}
use Rattle.lf_yaml.specs.views.Signs.{stops_of}
use Rattle.lf_yaml.specs.views.Shown.{shown}
use Rattle.lf_yaml.specs.declared.row.ContentLine.{ContentLine}
use Rattle.lf_yaml.proofs.RowCode.{text-shown}

pub plain-by : (at : ℕ) (text : List ℕ) (p s d : Bool) → 0 < length text → is_plain_byte (cell (get_or text 0 0) at) ≡ p → is_sign (cell (get_or text 0 0) at) ≡ s → before_blank (cells (suc at) (drop 1 text)) ≡ d
    → begins_plain (cells at text) ≡ (p || (s && not d))
plain-by at [] p s d lt e f g = absurd (omega arith)
plain-by at (x ∷ xs) p s d lt e f g =
    ap (λ (q : Bool). q || (is_sign (cell x at) && not (before_blank (cells (suc at) xs)))) e ∙ ap (λ (q : Bool). p || (q && not (before_blank (cells (suc at) xs)))) f ∙ ap (λ (q : Bool). p || (s && not q)) g

pub entry-bare : (r : ContentLine) (b : Bool) (o : Option Split) → 0 < length r.text.now → begins_plain (cells r.at r.text.now) ≡ b → key_in (stops_of false) before_blank (cells r.at r.text.now) ≡ o
    → entry_by (shown r) None ≡ cond b (bare_head o) None
entry-bare r b o lt e g =
    ap (λ (cs : List Cell). cond (begins_plain cs) (bare_head (key_in never before_blank cs)) None) (text-shown r lt)
    ∙ ap (λ (q : Bool). cond q (bare_head (key_in never before_blank (cells r.at r.text.now))) None) e
    ∙ ap (λ (q : Option Split). cond b (bare_head q) None) g

-- the entry that a split makes
pub head-of-split : (at k len : ℕ) (text : List ℕ) → get_or text k 0 ≡ 58 → trimmed is_blank (cells at (take k text)) ≡ cells at (take len text)
    → bare_head (Some (split_of at text k)) ≡ Some (Bare (cells at (take len text)), cell 58 (at + k), cells (suc (at + k)) (drop (k + 1) text))
head-of-split at k len text e t =
    let z : at + (k + 1) ≡ suc (at + k) = omega arith in
    ap (λ (cs : List Cell). Some (Bare cs, cell (get_or text k 0) (at + k), cells (at + (k + 1)) (drop (k + 1) text))) t
    ∙ ap (λ (b : ℕ). Some (Bare (cells at (take len text)), cell b (at + k), cells (at + (k + 1)) (drop (k + 1) text))) e
    ∙ ap (λ (n : ℕ). Some (Bare (cells at (take len text)), cell 58 (at + k), cells n (drop (k + 1) text))) z

-- ---- keys between quotes
