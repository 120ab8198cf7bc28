-- A way of checking patterns and selectors, which defines nothing: what the code computes, node by node. Laws prove that it finds exactly the breach that is told.
pub mod Checking
