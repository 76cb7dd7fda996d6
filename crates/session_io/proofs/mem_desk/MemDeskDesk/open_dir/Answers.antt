-- The directory is the first of its path, or there is none.
use Rattle.std.proofs.Common.{◌≡◌, ◌≤◌, IsTrue, List, map, ap, subst, sym, ◌∙◌}
use Rattle.std.specs.List.{list_all, remove, slice_index_or}
use Rattle.std.proofs.lemmas.Bool.{and_parts}
use Rattle.shard_disk.specs.Health.{Health, Rose}
use Rattle.session_io.specs.Directories.{HeldDir, IsAt}
use Rattle.session_io.specs.Taking.{TakesFirst}
use Rattle.session_io.specs.MemDesks.{Dir, HasPath, IsFirst, IsNone, health_with, held_dir, is_steady_entry}
use Rattle.session_io.proofs.MemDesksLemmas.{all_but_one, named_at, none_held, not_held, opened, steady_one, steady_still, takes_first}
use Rattle.session_io.proofs.mem_desk.MemDeskDesk.open_dir.Goals as goal

pub returns-in_default-clause-fault : goal.returns-in_default-clause-fault
returns-in_default-clause-fault g c =
    let dirs : List (Dir g.row.D.Denot) = c.args.self.now.dirs.items in
    let worked : c.next_fails.new.self ≡ c.args.self.now.failures = c.next_fails.ensures.works c.if-next_fails.false in
    let none : IsNone (HasPath c.args.path.now) dirs = subst (IsNone (HasPath c.args.path.now)) c.deref.ensures.value c.in_default.ensures in
    let later : c.args.self.now.failures.faults ≤ c.note_fault.new.self.faults =
    subst (λ (h : Health). h.faults ≤ c.note_fault.new.self.faults) worked c.note_fault.ensures.later in
    let rose : Rose c.args.self.now.failures.faults c.note_fault.new.self.faults =
    subst (λ (h : Health). Rose h.faults c.note_fault.new.self.faults) worked c.note_fault.ensures.rose in
    not_held _ _ _ later rose (none_held (IsAt c.args.path.now) held_dir dirs none)

pub returns-clause-dirs : goal.returns-clause-dirs
returns-clause-dirs g c =
    let dirs : List (Dir g.row.D.Denot) = c.args.self.now.dirs.items in
    let found : IsFirst (HasPath c.args.path.now) dirs c.in-Some.place =
    subst (λ (l : List (Dir g.row.D.Denot)). IsFirst (HasPath c.args.path.now) l c.in-Some.place) c.deref.ensures.value c.in-Some.ensures in
    let is : c.remove-disk.result ≡ slice_index_or dirs c.in-Some.place c.remove-disk.result = c.remove-disk.ensures.value in
    let named = named_at (HasPath c.args.path.now) dirs c.in-Some.place c.remove-disk.result found is in
    let taken : HeldDir g.row.D.Denot = record { path = c.args.path.now; disk = c.remove-disk.result.1 } in
    let as_held : held_dir c.remove-disk.result ≡ taken = λ i. record { path = named i; disk = c.remove-disk.result.1 } in
    let first = takes_first (IsAt c.args.path.now) held_dir dirs c.in-Some.place c.remove-disk.result taken found as_held is in
    subst (λ (l : List (Dir g.row.D.Denot)). TakesFirst (IsAt c.args.path.now) taken (map held_dir dirs) (map held_dir l))
    (sym c.remove-disk.ensures.items) first

pub returns-clause-fault : goal.returns-clause-fault
returns-clause-fault g c =
    let dirs : List (Dir g.row.D.Denot) = c.args.self.now.dirs.items in
    let worked : c.next_fails.new.self ≡ c.args.self.now.failures = c.next_fails.ensures.works c.if-next_fails.false in
    let found : IsFirst (HasPath c.args.path.now) dirs c.in-Some.place =
    subst (λ (l : List (Dir g.row.D.Denot)). IsFirst (HasPath c.args.path.now) l c.in-Some.place) c.deref.ensures.value c.in-Some.ensures in
    let is : c.remove-disk.result ≡ slice_index_or dirs c.in-Some.place c.remove-disk.result = c.remove-disk.ensures.value in
    let health : Health → List (Dir g.row.D.Denot) → Health = λ own left. health_with g.D.Disk.health own c.args.self.now.held.items left in
    let old : Health = health c.args.self.now.failures dirs in
    let same : IsTrue old.is_steady → health c.next_fails.new.self c.remove-disk.new.self.items ≡ old =
    λ steady. ap (λ (own : Health). health own c.remove-disk.new.self.items) worked
    ∙ ap (λ (l : List (Dir g.row.D.Denot)). health c.args.self.now.failures l) c.remove-disk.ensures.items
    ∙ steady_still g.D.Disk.health c.args.self.now.failures c.args.self.now.held.items c.args.self.now.held.items dirs (remove dirs c.in-Some.place) steady
    (λ all. all) (λ all. all_but_one (λ (dir : Dir g.row.D.Denot). (g.D.Disk.health dir.1).is_steady) dirs c.in-Some.place c.remove-disk.result found.within is all) in
    opened c.remove-disk.result.1 _ old (health c.next_fails.new.self c.remove-disk.new.self.items) (ap (λ (own : Health). own.faults) worked) same

pub returns-clause-steady : goal.returns-clause-steady
returns-clause-steady g c = λ steady.
    let dirs : List (Dir g.row.D.Denot) = c.args.self.now.dirs.items in
    let found : IsFirst (HasPath c.args.path.now) dirs c.in-Some.place =
    subst (λ (l : List (Dir g.row.D.Denot)). IsFirst (HasPath c.args.path.now) l c.in-Some.place) c.deref.ensures.value c.in-Some.ensures in
    let both = and_parts c.args.self.now.failures.is_steady _ steady in
    steady_one (λ (dir : Dir g.row.D.Denot). (g.D.Disk.health dir.1).is_steady) dirs c.in-Some.place c.remove-disk.result found.within c.remove-disk.ensures.value
    (and_parts (list_all is_steady_entry c.args.self.now.held.items) _ both.1).1
