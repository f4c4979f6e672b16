mod TextLemmas
mod CommandLemmas
mod DecimalLemmas
mod HexLemmas
mod LineLemmas
mod ReadBackLemmas
mod ReadLemmas
