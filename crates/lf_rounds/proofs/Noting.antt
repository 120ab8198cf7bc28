-- Notes of pieces.
use Rattle.std.proofs.Common.{◌≡◌, ℕ, Bool, true, false, if◌then◌else◌, List, [], ◌∷◌, ◌++◌, sym, ◌∙◌, subst, ⊎_elim}
use Rattle.std.specs.List.{Contains}
use Rattle.std.proofs.lemmas.List.{append-nil}
use Rattle.std.proofs.lemmas.List.Elements.{Contains-append_cases, Contains-append_left, Contains-append_right}
use Rattle.lf_laws.proofs.Members.{here, only_one}
use Rattle.lf_rounds.specs.declared.rule.Done.{Done}
use Rattle.lf_rounds.specs.declared.rule.Load.{Load}
use Rattle.lf_rounds.specs.declared.rule.Loaded.{Loaded}
use Rattle.lf_rounds.specs.declared.rule.RoundView.{RoundView}
use Rattle.lf_rounds.specs.Sums.{sum_of_loads}
use Rattle.lf_rounds.specs.views.Noting.{AreNoted, DidMore, IsNoted}

-- notes stay notes where more is done
pub noted_on : (v w : RoundView) (notes : List Loaded) → DidMore v w → AreNoted v.done notes → AreNoted w.done notes
noted_on v w notes more noted note c =
    let n = noted note c in
    let P : List Done → Type 0 = λ done. Contains done n.0 in
    (n.0, subst P (sym more.1) (Contains-append_left v.done more.0 n.0 n.1), n.2, n.3)

pub noted_same : (done now : List Done) (notes : List Loaded) → now ≡ done → AreNoted done notes → AreNoted now notes
noted_same done now notes e noted = let P : List Done → Type 0 = λ d. AreNoted d notes in subst P (sym e) noted

-- a note more
pub noted_push : (done : List Done) (notes more : List Loaded) (note : Loaded) → more ≡ notes ++ note ∷ [] → IsNoted done note → AreNoted done notes → AreNoted done more
noted_push done notes more note e is noted x c =
    let P : List Loaded → Type 0 = λ l. Contains l x in
    let Q : Loaded → Type 0 = λ n. IsNoted done n in
    ⊎_elim (λ (d : Contains notes x). noted x d) (λ (d : Contains (note ∷ []) x). subst Q (only_one note x d) is) (Contains-append_cases notes (note ∷ []) x (subst P e c))

-- the notes of two seats
pub noted_both : (done others : List Done) (notes theirs : List Loaded) → AreNoted done notes → AreNoted others theirs → AreNoted (done ++ others) (notes ++ theirs)
noted_both done others notes theirs mine more x c = ⊎_elim
    (λ (d : Contains notes x). let n = mine x d in (n.0, Contains-append_left done others n.0 n.1, n.2, n.3))
    (λ (d : Contains theirs x). let n = more x d in (n.0, Contains-append_right done others n.0 n.1, n.2, n.3))
    (Contains-append_cases notes theirs x c)

pub noted_left : (done others : List Done) (notes : List Loaded) → AreNoted done notes → AreNoted (done ++ others) notes
noted_left done others notes mine x c = let n = mine x c in (n.0, Contains-append_left done others n.0 n.1, n.2, n.3)

-- a seat that did nothing more
pub no_more : (v w : RoundView) → w.done ≡ v.done → DidMore v w
no_more v w e = ([], e ∙ sym (append-nil v.done))

-- the note of the last piece
pub last_noted : (done now : List Done) (piece : ℕ) (loads : List Load) (note : Loaded) → now ≡ done ++ record { piece = piece; loads = loads } ∷ [] → note.piece ≡ piece → note.sum ≡ sum_of_loads loads → IsNoted now note
last_noted done now piece loads note e same sums =
    let d : Done = record { piece = piece; loads = loads } in
    let P : List Done → Type 0 = λ l. Contains l d in
    (d, subst P (sym e) (Contains-append_right done (d ∷ []) d (here d [])), same, sums)

-- a note more, if it found memory
pub noted_pushed : (done : List Done) (notes more : List Loaded) (note : Loaded) (kept : Bool) → more ≡ (if kept then notes ++ note ∷ [] else notes) → IsNoted done note → AreNoted done notes → AreNoted done more
noted_pushed done notes more note true e is noted = noted_push done notes more note e is noted
noted_pushed done notes more note false e is noted = (let P : List Loaded → Type 0 = λ l. AreNoted done l in subst P (sym e) noted)
