-- Texts: how contracts see the code. It defines nothing.
use Rattle.std.specs.Prelude.{List, ℕ, string_bytes}
use Rattle.lf_base.specs.declared.text.Held.{Held}
use Rattle.lf_base.specs.declared.text.Held.TheVariants.{Few, Many}

-- the bytes, wherever they are
abbrev pub bytes_held : Held → List ℕ
bytes_held (Few alloc few) = few.bytes
bytes_held (Many string) = string_bytes string
