-- What a call of an engine makes of what a client's store tells.
use Rattle.std.proofs.Common.{◌≡◌, ◌∙◌, ℕ, ◌+◌, ◌<◌, ◌≤◌, true, false, List, [], ◌∷◌, ◌++◌, length, length-append, reverse, refl, sym, ap, subst, arith, All, Option, None, Some}
use Rattle.std.proofs.lemmas.Bool.{false≢true}
use Rattle.std.proofs.lemmas.List.{reverse-append}
use Rattle.shard_disk.specs.Health.{Failed, Health}
use Rattle.shard_disk.specs.declared.disk.Disk.{Ghosts}
use Rattle.tsdb_types.specs.Moments.{IsMoment}
use Rattle.tsdb_types.specs.declared.point.Point.{Point}
use Rattle.point_model.specs.Acceptance.{IsAccepted, IsSound}
use Rattle.point_model.specs.Cursors.{Gives, Shown}
use Rattle.point_model.specs.declared.need.Need.{Need}
use Rattle.point_model.specs.Histories.{State, state_after}
use Rattle.history_turn.specs.Histories.{StartsWith}
use Rattle.point_model.specs.declared.entry.Entry.{Entry}
use Rattle.store_trait.specs.Calls.Entry.{Accepts, TakesEntry}
use Rattle.store_trait.specs.Calls.View.{Begins}
use Rattle.store_trait.specs.Calls.Write.{IsOpen, FitsSeries, PassesSeries, PassesCache, WriteHasCause}
use Rattle.store_trait.specs.Told.{Attempt, Keeps, Refuses, Told, TriesAtMost, last_number}
use Rattle.store_trait.specs.Calls.Delete.{DeleteHasCause}
use Rattle.store_trait.specs.declared.fault.DeleteFault.{DeleteFault}
use Rattle.store_trait.specs.declared.fault.DeleteFault.TheVariants as delete_fault
use Rattle.store_trait.specs.declared.fault.WriteFault.{WriteFault}
use Rattle.store_trait.specs.declared.fault.WriteFault.TheVariants as fault
use Rattle.shard_steps.specs.Calls.Delete as deleting
use Rattle.shard_steps.specs.Calls.View.{Lends}
use Rattle.shard_steps.specs.Calls.Write as steps
use Rattle.shard_steps.specs.Series.{is_among}
use Rattle.shard_steps.specs.Shards.{state_of}
use Rattle.shard_steps.specs.declared.shard.Shard.{Shard}
use Rattle.shard_calls.specs.Told.{limits_of}
use Rattle.shard_calls.proofs.CountLemmas.{all_few, all_texts, are_known, are_new, few_left, known_few, known_of, new_of, unheld_few}
use Rattle.shard_calls.proofs.SeriesLemmas.{by_case}
use Rattle.shard_calls.proofs.StoreLemmas.{MakesEntry, attempt_at, within_held}
use Rattle.shard_shared.specs.Entries.{entries_in, most_found, tried_lent, views_lent}
use Rattle.shard_shared.specs.Reaching.{ComesTo, ComesFrom}
use Rattle.shard_shared.specs.Told.{is_steady_at, limits_at, number_at, state_at}
use Rattle.shard_shared.specs.declared.engine.Entered.{Entered}
use Rattle.shard_shared.specs.declared.engine.Lent.{Lent}
use Rattle.shard_shared.specs.declared.engine.Lent.TheVariants.{View}
use Rattle.shard_shared.proofs.EntriesLemmas.{as_many, entries_in-append}

-- what a store tells, by the parts of its pass
abbrev pub told_at : {D : Type 0} → ℕ → Option (Shard D) → List Entered → List ℕ → List Lent → Told
told_at client start seen own loans = record {
  client = client;
  start = state_at start;
  tells = true;
  is_alone = false;
  limits = limits_at start;
  history = entries_in seen;
  own = reverse own;
  series = most_found loans;
  out = views_lent loans;
  tried = tried_lent loans;
}

module _ {D : Type 0} (client : ℕ) (start : Option (Shard D)) where
  -- What every call keeps.
  pub keeps : (seen entries : List Entered) (own now : List ℕ) (loans left : List Lent) → StartsWith entries seen → most_found loans ≤ most_found left
      → Keeps (told_at client start seen own loans) (told_at client start entries now left)
  keeps seen entries own now loans left more few = record {
    client = refl;
    start = refl;
    tells = refl;
    is_alone = refl;
    alone = λ alone owns. absurd (false≢true alone);
    limits = refl;
    history = record { since = entries_in more.0; begins = ap (λ (es : List Entered). entries_in es) more.1 ∙ entries_in-append seen more.0 };
    series = few;
  }

  -- What a refusal leaves.
  pub refuses : (number : ℕ) (asked : Entry) (may : Type 0) (seen entries : List Entered) (own : List ℕ) (loans left : List Lent) → views_lent left ≡ views_lent loans
      → number ≡ (state_after (state_at start) (entries_in entries)).number → TriesAtMost (attempt_at number asked) may (tried_lent loans) (tried_lent left)
      → Refuses asked may (told_at client start seen own loans) (told_at client start entries own left)
  refuses number asked may seen entries own loans left same is tries = record {
    own = refl;
    out = same;
    tried = subst (λ (n : ℕ). TriesAtMost (attempt_at n asked) may (tried_lent loans) (tried_lent left)) is tries;
  }

module _ {D R W : Type 0} (g : Ghosts D R W) where
  pub reached : (start : Option (Shard D)) (faults : ℕ) (tried : List Attempt) (entered : List Entered) (shard : Shard D) → ComesFrom g start faults tried entered shard
      → state_of shard ≡ state_after (state_at start) (entries_in entered)
  reached (Some s) faults tried entered shard was = was.state
  reached None faults tried entered shard was = absurd was

  -- An entry more.
  pub accepts : (start : Option (Shard D)) (faults client : ℕ) (tried : List Attempt) (made : Entry) (number : ℕ) (seen entries : List Entered) (moment : ℕ) (own : List ℕ) (loans : List Lent) (old new : Shard D)
      → StartsWith entries seen → ComesFrom g start faults tried entries old → MakesEntry made number old new
      → Accepts made number (told_at client start seen own loans)
      (told_at client start (entries ++ record { entry = made; moment = moment } ∷ []) ((number_at start + length entries + 1) ∷ own) loans)
  accepts start faults client tried made number seen entries moment own loans old new more was makes =
      let last : Entered = record { entry = made; moment = moment } in
      let before = ap (λ (s : State). s.number) (reached start faults tried entries old was) in
      let step = ap (λ (s : State). s.number) makes.state in
      let given = makes.given in
      let many = as_many entries in
      let joined = ap (λ (es : List Entry). length es) (entries_in-append entries (last ∷ [])) in
      let sum = length-append (entries_in entries) (made ∷ []) in
      record {
        before = entries_in entries;
        later = record { since = entries_in more.0; begins = ap (λ (es : List Entered). entries_in es) more.1 ∙ entries_in-append seen more.0 };
        entry = entries_in-append entries (last ∷ []);
        accepted = λ tells. subst (λ (s : State). TakesEntry s.points made) (reached start faults tried entries old was) makes.taken;
        given = omega (arith, before, step, given, joined, sum);
        limit = makes.limit;
        own = reverse-append ((number_at start + length entries + 1) ∷ []) own ∙ ap (λ (n : ℕ). reverse own ++ n ∷ []) (let own_is : number_at start + length entries + 1 ≡ number = omega (arith, before, step, given, many) in own_is);
        out = refl;
        tried = refl;
      }

  -- Views.
  pub begins : (start : Option (Shard D)) (faults client : ℕ) (tried : List Attempt) (need : Need) (shown : Shown) (seen entries : List Entered) (own : List ℕ) (loans : List Lent) (shard : Shard D)
      → ComesFrom g start faults tried entries shard → Lends need shown shard
      → Begins need shown 0 false (told_at client start seen own loans) (told_at client start entries own (View ∷ loans))
  begins start faults client tried need shown seen entries own loans shard was lends = record {
    number = lends.number ∙ ap (λ (s : State). s.number) (reached start faults tried entries shard was);
    gives = λ tells. subst (λ (s : State). Gives s.points need shown) (reached start faults tried entries shard was) lends.gives;
    sound = λ tells. subst (λ (s : State). IsSound s.points) (reached start faults tried entries shard was) lends.sound;
    timed = λ tells. subst (λ (s : State). All (λ point. IsMoment point.0.time) s.points) (reached start faults tried entries shard was) lends.timed;
    own = refl;
    tried = refl;
    out = refl;
    told_is_whole = λ tells. refl;
    unlimited_is_whole = λ none. refl;
  }

  -- A fault.
  unsteady : (start : Option (Shard D)) (faults : ℕ) (tried : List Attempt) (entered : List Entered) (shard : Shard D) → ComesFrom g start faults tried entered shard
      → (g.health shard.logs.disk).is_steady ≡ false → is_steady_at g start ≡ false
  unsteady (Some s) faults tried entered shard was fails =
      by_case (g.health s.logs.disk).is_steady
      (λ is. absurd (false≢true (sym fails ∙ ap (λ (h : Health). h.is_steady) (was.health.ages.steady is) ∙ is)))
      (λ isnt. isnt)
  unsteady None faults tried entered shard was fails = absurd was

  pub failed : (start : Option (Shard D)) (faults told : ℕ) (tried : List Attempt) (entered : List Entered) (shard : Shard D) (now : Health) → ComesFrom g start faults tried entered shard
      → Failed (g.health shard.logs.disk) now → Failed (record { faults = told; is_steady = is_steady_at g start }) (record { faults = told + 1; is_steady = is_steady_at g start })
  failed start faults told tried entered shard now was fails = record { rose = omega arith; unsteady = unsteady start faults tried entered shard was fails.unsteady }

  -- Why a batch was refused.
  module _ (start : Shard D) (faults client : ℕ) (tried : List Attempt) (points : List Point) (entered : List Entered) (own : List ℕ) (loans : List Lent) (shard : Shard D)
      (was : ComesTo g start faults tried entered shard) (few : length shard.logs.series.keys ≤ most_found loans) where
    within : (text : List ℕ) → is_among (all_texts (limits_of (state_of start) start.logs.series.keys start) (entries_in entered)) text ≡ true → is_among shard.logs.series.keys text ≡ true
    within = within_held start.logs.series.keys shard.logs.series.keys (entries_in entered) tried was.series

    is_open : steps.IsOpen points shard → IsOpen points (told_at client (Some start) entered own loans)
    is_open o = record {
      accepted = λ tells. subst (λ (s : State). IsAccepted s.points points) was.state o.accepted;
      number = subst (λ (s : State). s.number < last_number) was.state o.number;
    }

    fits : steps.FitsSeries points shard → FitsSeries points (told_at client (Some start) entered own loans) (limits_of (state_of start) start.logs.series.keys start)
    fits f = record {
      held = length (known_of (limits_of (state_of start) start.logs.series.keys start) (entries_in entered));
      known = known_of (limits_of (state_of start) start.logs.series.keys start) (entries_in entered);
      new = new_of (limits_of (state_of start) start.logs.series.keys start) (entries_in entered) points;
      are_known = are_known (limits_of (state_of start) start.logs.series.keys start) (entries_in entered);
      are_new = are_new (limits_of (state_of start) start.logs.series.keys start) (entries_in entered) points;
      no_fewer = omega arith;
      are_held =
          let known = known_few (limits_of (state_of start) start.logs.series.keys start) (entries_in entered) points shard.logs.series.keys f.new f.are within in
          omega (arith, known, few);
      fits =
          let all = all_few (limits_of (state_of start) start.logs.series.keys start) (entries_in entered) points shard.logs.series.keys f.new f.are within in
          let fit = f.fits in
          let same = ap (λ settings. settings.series) was.settings in
          omega (arith, all, fit, same);
    }

    passes : (held : ℕ) → steps.PassesSeries points shard → held ≡ length shard.logs.series.keys
        → PassesSeries points held (most_found loans) (entries_in entered) (limits_of (state_of start) start.logs.series.keys start)
    passes held p is = record {
      new = new_of (limits_of (state_of start) start.logs.series.keys start) (entries_in entered) points;
      are_new = are_new (limits_of (state_of start) start.logs.series.keys start) (entries_in entered) points;
      are_held = omega (arith, few, is);
      passes =
          let more = unheld_few (limits_of (state_of start) start.logs.series.keys start) (entries_in entered) points shard.logs.series.keys p.new p.are within in
          let past = p.passes in
          let same = ap (λ settings. settings.series) was.settings in
          omega (arith, more, past, same, is);
    }

    cached : (held : ℕ) → held ≡ length shard.live.points → shard.settings.cache_points < held + length points
        → PassesCache points held (entries_in entered) (limits_of (state_of start) start.logs.series.keys start)
    cached held is past = record {
      are_held =
          let left = few_left start.live.points (entries_in entered) in
          let now = ap (λ (s : State). length s.points) was.state in
          omega (arith, left, now, is);
      passes = let same = ap (λ settings. settings.cache_points) was.settings in omega (arith, past, same);
    }

    cause_of : (before after old new : Health) (why : WriteFault) → (why ≡ fault.Fault → Failed before after → Failed old new) → steps.HasCause points shard before after why
        → WriteHasCause points (told_at client (Some start) entered own loans) old new why
    cause_of before after old new (fault.TypeConflict field held number) fails is =
        (record { stored = shard.live.points; are_told = λ tells. ap (λ (s : State). s.points) was.state; in_conflict = is.0 }, is.1 ∙ ap (λ (s : State). s.number) was.state)
    cause_of before after old new fault.HistoryFull fails is =
        ((λ tells. subst (λ (s : State). IsAccepted s.points points) was.state is.0), sym (ap (λ (s : State). s.number) was.state) ∙ is.1)
    cause_of before after old new (fault.SeriesFull held) fails is = (is_open is.0, passes held is.1 is.2)
    cause_of before after old new (fault.CacheFull held) fails is = (is_open is.0, fits is.1, cached held is.2 is.3)
    cause_of before after old new fault.Memory fails is = tt
    cause_of before after old new fault.Fault fails is =
        (fails refl is.0, is_open is.1, fits is.2, (let same = ap (λ settings. settings.cache_points) was.settings in let room = is.3 in omega (arith, same, room)))

  pub cause : (start : Option (Shard D)) (faults client : ℕ) (tried : List Attempt) (points : List Point) (entered : List Entered) (own : List ℕ) (loans : List Lent) (shard : Shard D)
      → ComesFrom g start faults tried entered shard → length shard.logs.series.keys ≤ most_found loans
      → (before after old new : Health) (why : WriteFault) → (why ≡ fault.Fault → Failed before after → Failed old new) → steps.HasCause points shard before after why
      → WriteHasCause points (told_at client start entered own loans) old new why
  cause (Some s) faults client tried points entered own loans shard was few before after old new why fails is =
      cause_of s faults client tried points entered own loans shard was few before after old new why fails is
  cause None faults client tried points entered own loans shard was few before after old new why fails is = absurd was

  -- Why a deletion was refused.
  pub delete_cause : (start : Option (Shard D)) (faults client : ℕ) (tried : List Attempt) (entered : List Entered) (own : List ℕ) (loans : List Lent) (shard : Shard D) → ComesFrom g start faults tried entered shard
      → (before after old new : Health) (why : DeleteFault) → (why ≡ delete_fault.Fault → Failed before after → Failed old new) → deleting.HasCause shard before after why
      → DeleteHasCause (told_at client start entered own loans) old new why
  delete_cause start faults client tried entered own loans shard was before after old new delete_fault.HistoryFull fails is =
      sym (ap (λ (s : State). s.number) (reached start faults tried entered shard was)) ∙ is
  delete_cause start faults client tried entered own loans shard was before after old new delete_fault.Memory fails is = tt
  delete_cause start faults client tried entered own loans shard was before after old new delete_fault.Fault fails is =
      (fails refl is.0, subst (λ (s : State). s.number < last_number) (reached start faults tried entered shard was) is.1)
