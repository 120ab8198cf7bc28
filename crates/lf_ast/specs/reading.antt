-- A way of judging expressions, which defines nothing: what the code computes, node by node. Laws prove that it finds exactly the types and breaches of `Types.antt` and
-- `Breaches.antt`.
pub mod Judging
