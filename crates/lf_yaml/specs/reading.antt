-- A way of reading a document row by row, which defines nothing: what the code computes, function by function. Laws prove that it reads exactly the trees and breaches of `Document.antt`.
pub mod Trees
pub mod FlowLines
pub mod FlowTurns
pub mod BlockTurns
