-- The client is the first of its names, or there is none.
use Rattle.std.proofs.Common.{◌≡◌, ◌≤◌, IsTrue, List, map, ap, subst, sym, ◌∙◌}
use Rattle.std.specs.List.{list_all, remove, slice_index_or}
use Rattle.std.specs.Prelude.{All}
use Rattle.std.proofs.lemmas.Bool.{and_parts}
use Rattle.shard_disk.specs.Health.{Health, Rose}
use Rattle.session_io.specs.declared.mem_source.MemSource.{MemSource}
use Rattle.session_io.specs.declared.mem_sink.MemSink.{MemSink}
use Rattle.session_io.specs.declared.mem_clock.MemClock.{MemClock}
use Rattle.session_io.specs.Clients.{Held, IsNamed}
use Rattle.session_io.specs.Taking.{TakesFirst}
use Rattle.session_io.specs.MemDesks.{Entry, HasNames, IsFirst, IsFreshEntry, IsNone, health_with, held_of, is_steady_entry}
use Rattle.session_io.proofs.MemDesksLemmas.{all_but_one, all_left, named_at, none_held, not_held, opened, steady_one, steady_still, takes_first}
use Rattle.session_io.proofs.mem_desk.MemDeskDesk.open_client.Goals as goal

pub returns-in_default-clause-fault : goal.returns-in_default-clause-fault
returns-in_default-clause-fault g c =
    let held : List Entry = c.args.self.now.held.items in
    let worked : c.next_fails.new.self ≡ c.args.self.now.failures = c.next_fails.ensures.works c.if-next_fails.false in
    let none : IsNone (HasNames c.args.input.now c.args.output.now) held =
    subst (IsNone (HasNames c.args.input.now c.args.output.now)) c.deref.ensures.value c.in_default.ensures in
    let later : c.args.self.now.failures.faults ≤ c.note_fault.new.self.faults =
    subst (λ (h : Health). h.faults ≤ c.note_fault.new.self.faults) worked c.note_fault.ensures.later in
    let rose : Rose c.args.self.now.failures.faults c.note_fault.new.self.faults =
    subst (λ (h : Health). Rose h.faults c.note_fault.new.self.faults) worked c.note_fault.ensures.rose in
    not_held _ _ _ later rose (none_held (IsNamed c.args.input.now c.args.output.now) held_of held none)

pub returns-clause-held : goal.returns-clause-held
returns-clause-held g c =
    let held : List Entry = c.args.self.now.held.items in
    let found : IsFirst (HasNames c.args.input.now c.args.output.now) held c.in-Some.place =
    subst (λ (l : List Entry). IsFirst (HasNames c.args.input.now c.args.output.now) l c.in-Some.place) c.deref.ensures.value c.in-Some.ensures in
    let is : c.remove-client.result ≡ slice_index_or held c.in-Some.place c.remove-client.result = c.remove-client.ensures.value in
    let named = named_at (HasNames c.args.input.now c.args.output.now) held c.in-Some.place c.remove-client.result found is in
    let taken : Held MemSource MemSink MemClock = record { input = c.args.input.now; output = c.args.output.now; client = c.remove-client.result.2 } in
    let as_held : held_of c.remove-client.result ≡ taken = λ i. record { input = named.0 i; output = named.1 i; client = c.remove-client.result.2 } in
    let first = takes_first (IsNamed c.args.input.now c.args.output.now) held_of held c.in-Some.place c.remove-client.result taken found as_held is in
    subst (λ (l : List Entry). TakesFirst (IsNamed c.args.input.now c.args.output.now) taken (map held_of held) (map held_of l))
    (sym c.remove-client.ensures.items) first

pub returns-clause-fault : goal.returns-clause-fault
returns-clause-fault g c =
    let held : List Entry = c.args.self.now.held.items in
    let worked : c.next_fails.new.self ≡ c.args.self.now.failures = c.next_fails.ensures.works c.if-next_fails.false in
    let found : IsFirst (HasNames c.args.input.now c.args.output.now) held c.in-Some.place =
    subst (λ (l : List Entry). IsFirst (HasNames c.args.input.now c.args.output.now) l c.in-Some.place) c.deref.ensures.value c.in-Some.ensures in
    let is : c.remove-client.result ≡ slice_index_or held c.in-Some.place c.remove-client.result = c.remove-client.ensures.value in
    let old : Health = health_with g.D.Disk.health c.args.self.now.failures held c.args.self.now.dirs.items in
    let same : IsTrue old.is_steady → health_with g.D.Disk.health c.next_fails.new.self c.remove-client.new.self.items c.args.self.now.dirs.items ≡ old =
    λ steady. ap (λ (own : Health). health_with g.D.Disk.health own c.remove-client.new.self.items c.args.self.now.dirs.items) worked
    ∙ ap (λ (l : List Entry). health_with g.D.Disk.health c.args.self.now.failures l c.args.self.now.dirs.items) c.remove-client.ensures.items
    ∙ steady_still g.D.Disk.health c.args.self.now.failures held (remove held c.in-Some.place) c.args.self.now.dirs.items c.args.self.now.dirs.items steady
    (λ all. all_but_one is_steady_entry held c.in-Some.place c.remove-client.result found.within is all) (λ all. all) in
    opened c.remove-client.result.2 _ old (health_with g.D.Disk.health c.next_fails.new.self c.remove-client.new.self.items c.args.self.now.dirs.items) (ap (λ (own : Health). own.faults) worked) same

pub invariant_of-self-2-clause-free : goal.invariant_of-self-2-clause-free
invariant_of-self-2-clause-free g c = c.args.self.now.free

pub invariant_of-self-2-clause-fresh : goal.invariant_of-self-2-clause-fresh
invariant_of-self-2-clause-fresh g c =
    subst (λ (l : List Entry). All IsFreshEntry l) (sym c.remove-client.ensures.items) (all_left IsFreshEntry c.args.self.now.held.items c.in-Some.place c.args.self.now.fresh)

pub returns-clause-steady : goal.returns-clause-steady
returns-clause-steady g c = λ steady.
    let held : List Entry = c.args.self.now.held.items in
    let found : IsFirst (HasNames c.args.input.now c.args.output.now) held c.in-Some.place =
    subst (λ (l : List Entry). IsFirst (HasNames c.args.input.now c.args.output.now) l c.in-Some.place) c.deref.ensures.value c.in-Some.ensures in
    let both = and_parts c.args.self.now.failures.is_steady _ steady in
    steady_one is_steady_entry held c.in-Some.place c.remove-client.result found.within c.remove-client.ensures.value (and_parts (list_all is_steady_entry held) _ both.1).0
