-- What a cache keeps.
use Rattle.std.specs.Prelude.{List}
use Rattle.swap_units.specs.declared.interval.Interval.{Interval}
use Rattle.descriptor_cache.specs.declared.cache.DescriptorCache.{DescriptorCache}

-- the kept intervals, the oldest first
abbrev pub kept_in : DescriptorCache → List Interval
kept_in c = c.kept.items
