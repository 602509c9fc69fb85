-- Units of a page.
pub use Rattle.cut_words.proofs.UnitLemmas.{unit-map, in_unit, same_units}
