-- What does a desk know of its clients?
use Rattle.std.specs.Prelude.{◌≡◌, ℕ, ◌≤◌, ℤ, Bool, false, ◌&&◌, IsTrue, List, [], Any, Option, IfSome, Result, IsOk, IsErrOf}
use Rattle.shard_disk.specs.Health.{Health, Rose}
use Rattle.shard_disk.specs.declared.trouble.Trouble.{Trouble}
use Rattle.shard_disk.specs.declared.trouble.Trouble.TheVariants as trouble
use Rattle.session_io.specs.declared.report.Report.{Report}
use Rattle.session_io.specs.declared.client.Client.{Client}
use Rattle.session_io.specs.Taking.{TakesFirst, Told}

-- what is left of a client when it is closed; no report where it wasn't served
pub record Closed : Type 0 where
  pub source_faults : ℕ
  pub sink_faults : ℕ
  pub ended : Bool
  pub read : Option (List ℕ)
  pub moments : Option (List ℤ)
  pub written : Option (List ℕ)
  pub report : Option Report

-- a client that waits to be opened, under the names of its input and its output
pub record Held (S K C : Type 0) : Type 0 where
  pub input : List ℕ
  pub output : List ℕ
  pub client : Client S K C

module _ {S K C : Type 0} (given : S → Option (List ℕ)) (ended : S → Bool) (source_health : S → Health)
    (written : K → Option (List ℕ)) (sink_health : K → Health) (moments : C → Option (List ℤ)) where
  -- nothing was read from, written to or asked of the client, and nothing has failed
  pub record IsFresh (client : Client S K C) : Type 0 where
    pub unread : IfSome (given client.source) (λ bytes. bytes ≡ [])
    pub not_ended : ended client.source ≡ false
    pub no_source_fault : (source_health client.source).faults ≡ 0
    pub unwritten : IfSome (written client.sink) (λ bytes. bytes ≡ [])
    pub no_sink_fault : (sink_health client.sink).faults ≡ 0
    pub not_asked : IfSome (moments client.clock) (λ told. told ≡ [])

  -- what is left of this client, with this report
  abbrev pub closed_client : Client S K C → Option Report → Closed
  closed_client client report = record {
    source_faults = (source_health client.source).faults;
    sink_faults = (sink_health client.sink).faults;
    ended = ended client.source;
    read = given client.source;
    moments = moments client.clock;
    written = written client.sink;
    report = report;
  }

-- neither its source nor its sink will fail
abbrev pub is_steady : {S K C : Type 0} → (S → Health) → (K → Health) → Client S K C → Bool
is_steady source_health sink_health client = (source_health client.source).is_steady && (sink_health client.sink).is_steady

-- the client is held under these names
abbrev pub IsNamed : {S K C : Type 0} → List ℕ → List ℕ → Held S K C → Type 0
IsNamed input output held = (held.input ≡ input) × (held.output ≡ output)

-- the desk holds a client of these names, or doesn't tell what it holds
abbrev pub IsHeld : {S K C : Type 0} → List ℕ → List ℕ → Option (List (Held S K C)) → Type 0
IsHeld input output held = IfSome held (Any (IsNamed input output))

-- the first client of these names, as it was held, is taken out of those that are held
abbrev pub HandsOut : {S K C : Type 0} → List ℕ → List ℕ → Client S K C → Option (List (Held S K C)) → Option (List (Held S K C)) → Type 0
HandsOut input output client old new =
    Told (TakesFirst (IsNamed input output) (record { input = input; output = output; client = client })) old new

-- What an opening does to the health of a desk. A steady one fails only at names under which it holds nothing.
pub record OpeningHasCause {T : Type 0} (result : Result T Trouble) (is_held : Type 0) (old new : Health) : Type 0 where
  pub later : old.faults ≤ new.faults
  pub fault : IsErrOf result trouble.Fault → Rose old.faults new.faults
  pub memory : IsErrOf result trouble.Memory → new ≡ old
  pub ok : IsOk result → new.faults ≡ old.faults
  pub steady : IsTrue old.is_steady → is_held → (new ≡ old) × ¬ (IsErrOf result trouble.Fault)
