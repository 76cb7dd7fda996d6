-- What do the devices of clients tell of themselves?
use Rattle.std.specs.Prelude.{ℕ, ℤ, Bool, List, Option}
use Rattle.shard_disk.specs.Health.{Health}
use Rattle.session_io.specs.declared.client.Client.{Client}
use Rattle.session_loop.specs.Sessions.{Told, told}

-- what the sources, sinks and clocks of a type tell
pub record Devices (S K C : Type 0) : Type 0 where
  pub given : S → Option (List ℕ)
  pub left : S → Option (List ℕ)
  pub ended : S → Bool
  pub source_health : S → Health
  pub written : K → Option (List ℕ)
  pub sink_health : K → Health
  pub moments : C → Option (List ℤ)

abbrev pub devices : {S K C : Type 0} → (S → Option (List ℕ)) → (S → Option (List ℕ)) → (S → Bool) → (S → Health) → (K → Option (List ℕ)) → (K → Health) → (C → Option (List ℤ)) → Devices S K C
devices given left ended source_health written sink_health moments = record {
  given = given;
  left = left;
  ended = ended;
  source_health = source_health;
  written = written;
  sink_health = sink_health;
  moments = moments;
}

-- what a client's devices tell at a moment
abbrev pub told_by : {S K C : Type 0} → Devices S K C → Client S K C → Told
told_by members client = told members.given members.left members.ended members.written members.moments client.source client.sink client.clock
