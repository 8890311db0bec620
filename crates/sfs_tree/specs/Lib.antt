pub mod Counts
pub mod Nodes
pub mod NodesState
pub mod RowsState
pub mod Store
pub mod StoreState
