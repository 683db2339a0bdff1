mod HexLemmas
mod WholeLemmas
