mod ByKind
mod Room
