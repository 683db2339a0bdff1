pub mod BitmapLemmas
pub mod WordLemmas
