-- What may stand on a disk where the power went.
pub use Rattle.cut_words.specs.Cut.{unit, AtSome, HasLabelAt, HasUnitAt, IsCut, IsCutSince}
