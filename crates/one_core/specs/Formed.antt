-- What the types of the code say of a core: the length of its list, and that its sets fit their words.
use Rattle.std.specs.Prelude.{◌≡◌, ◌^◌, ◌<◌, length}
use Rattle.one_core.specs.declared.Core.{Core}
use Rattle.one_core.specs.Parts.{most_jobs}

pub record Formed-core (k : Core) : Type 0 where
  pub jobs_long : length k.jobs ≡ most_jobs
  pub reads_fit : k.reads < 2 ^ 64
  pub writes_fit : k.writes < 2 ^ 64
