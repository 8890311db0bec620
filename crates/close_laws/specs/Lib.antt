pub mod Own
pub mod Maps
pub mod Beside
pub mod PenLabels
pub mod Fronts
pub mod Close
pub mod Pens
