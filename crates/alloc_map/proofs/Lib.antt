mod BitLemmas
mod PageLemmas
mod SearchLemmas
mod Spending
mod WordLemmas
