-- Reading a block scalar is the definition, in both directions, and its fault is the breach.
use Rattle.std.proofs.Common.{◌≡◌, ℕ, suc, List, Option, Some, None, Result, Ok, Err, refl, ap, sym, ◌∙◌, subst}
use Rattle.std.specs.Prelude.{min, is_none}
use Rattle.lf_base.specs.declared.fault.Fault.{Fault}
use Rattle.lf_base.specs.Faults.{span}
use Rattle.lf_scalar.specs.declared.block.Chomp.{Chomp}
use Rattle.lf_scalar.specs.Cells.{Cell, Value, made, end_of, ◌>>=◌}
use Rattle.lf_scalar.specs.Lines.{Line}
use Rattle.lf_scalar.specs.Block.{content_indent, body_of, body_fault, Headed, IsBlock, IsBlockText, BreaksBlock, header, body}
use Rattle.lf_scalar.specs.reading.Block.{Header, header_from, block_text, unless_broken, body_read, block_value, block_read, block_lines, block_of}
use Rattle.lf_scalar.proofs.BlockBody.{Joining, text-again, text-told}
use Rattle.lf_scalar.proofs.BlockHeader.{header-again, header-told, wrong-again, wrong-found}

module _ (Joins : List Line → List Cell → Type 0) (joins : List Line → List Cell) (j : Joining Joins joins) (above end : ℕ) (src : List Cell) where
  headed-is : (h : Headed end src) → block_of joins above end src ≡ block_read joins above end h.sign h.following (header_from None None h.header)
  unfolding block_of
  headed-is h = ap (block_lines joins above end) h.source

  abbrev fault_in : Headed end src → Option ℕ → Option Fault
  fault_in h digit = body_fault (is_none digit) above (content_indent above digit h.following) h.following

  abbrev body_in : Headed end src → Option ℕ → List Line
  body_in h digit = body_of (content_indent above digit h.following) h.following

  body-is : (h : Headed end src) (chomp : Chomp) (digit : Option ℕ) (text : List Cell) → fault_in h digit ≡ None → IsBlockText Joins end chomp (body_in h digit) text → body_read joins above end chomp digit h.following ≡ Ok text
  body-is h chomp digit text sound t = rw sound (ap (λ (cs : List Cell). Ok cs) (sym (text-again Joins joins j end chomp (body_in h digit) text t)))

  value-is : (v : Value) (h : IsBlock Joins above end src v) → v ≡ block_value end h.headed.sign h.text
  value-is v h = h.value ∙ ap (λ (n : ℕ). made h.text n (span h.headed.sign.at n)) h.last_is

  pub block-read : (v : Value) → IsBlock Joins above end src v → block_of joins above end src ≡ Ok v
  block-read v h =
      headed-is h.headed ∙ ap (block_read joins above end h.headed.sign h.headed.following) (header-again h.headed.header h.chomp h.digit h.header)
      ∙ ap (λ (r : Result (List Cell) Fault). r >>= λ text. Ok (block_value end h.headed.sign text)) (body-is h.headed h.chomp h.digit h.text h.sound h.is_text) ∙ ap (λ (x : Value). Ok x) (sym (value-is v h))

  pub block-refused : (f : Fault) → BreaksBlock above end src f → block_of joins above end src ≡ Err f
  block-refused _ (header {wrong = wrong} h w) = headed-is h ∙ ap (block_read joins above end h.sign h.following) (wrong-again h.header wrong w)
  block-refused f (body {chomp = chomp} {digit = digit} h marks broken) = headed-is h ∙ ap (block_read joins above end h.sign h.following) (header-again h.header chomp digit marks) ∙ rw broken refl

  abbrev pub Told : Result Value Fault → Type 0
  Told (Ok v) = IsBlock Joins above end src v
  Told (Err f) = BreaksBlock above end src f

  body-tells : (h : Headed end src) (chomp : Chomp) (digit : Option ℕ) → header_from None None h.header ≡ Ok (chomp, digit) → (o : Option Fault) → fault_in h digit ≡ o
      → Told (unless_broken o (block_text joins end chomp (body_in h digit)) >>= λ text. Ok (block_value end h.sign text))
  body-tells h chomp digit e (Some f) b = body h (header-told h.header (chomp, digit) e) b
  body-tells h chomp digit e None b = record {
    headed = h;
    chomp = chomp;
    digit = digit;
    header = header-told h.header (chomp, digit) e;
    sound = b;
    text = block_text joins end chomp (body_in h digit);
    is_text = text-told Joins joins j end chomp (body_in h digit);
    last = min (end_of (suc h.sign.at) (block_text joins end chomp (body_in h digit))) end;
    last_is = refl;
    value = refl;
  }

  header-tells : (h : Headed end src) (read : Header) → header_from None None h.header ≡ read → Told (block_read joins above end h.sign h.following read)
  header-tells h (Ok x) e = body-tells h x.0 x.1 e (fault_in h x.1) refl
  header-tells h (Err w) e = header h (wrong-found h.header w e)

  pub block-told : Headed end src → Told (block_of joins above end src)
  block-told h = subst Told (sym (headed-is h)) (header-tells h (header_from None None h.header) refl)
