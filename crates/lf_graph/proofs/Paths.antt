-- Edges behind one another.
use Rattle.std.proofs.Common.{ℕ, List}
use Rattle.std.specs.List.{Contains}
use Rattle.lf_graph.specs.Paths.{Leads, after, along, nowhere}

pub onwards : (edges : List (List ℕ)) (u v w : ℕ) → Leads edges u v → Leads edges v w → Leads edges u w
onwards edges u v w nowhere b = b
onwards edges u v w (along x e a) b = along x e (onwards edges x v w a b)

pub by_edge : (edges : List (List ℕ)) (u v w : ℕ) → Leads edges u v → Contains (after edges v) w → Leads edges u w
by_edge edges u v w a e = onwards edges u v w a (along w e nowhere)
