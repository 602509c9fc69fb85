use Rattle.label_laws.proofs.PermanentLemmas as laws
use Rattle.label_laws.proofs.laws.permanent_files.Goals as goal

pub returns-clause-permanent : goal.returns-clause-permanent
returns-clause-permanent c = record { among = laws.permanent_among; files = laws.permanent_right; volume = laws.permanent_volume; each = λ serial counter d id right. laws.one serial counter d right id }

pub returns-clause-seen : goal.returns-clause-seen
returns-clause-seen c = record { changed = laws.changed_seen; shape_changed = laws.shape_changed_seen; kept = laws.kept_seen; stays_right = laws.stays_right_seen }

pub returns-clause-no_temporary : goal.returns-clause-no_temporary
returns-clause-no_temporary c = record { files = laws.none_temporary; right = laws.none_temporary_right; sound = laws.none_temporary_sound }
