-- Fragments: cuts, and the map after an overlay.
pub mod Grid
pub mod Maps
pub mod Overlaid
