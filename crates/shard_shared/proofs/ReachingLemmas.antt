-- What a call of an engine makes of the entries that it came to.
use Rattle.std.proofs.Common.{◌≡◌, ◌∙◌, ℕ, ◌+◌, ◌≤◌, min, List, [], ◌∷◌, ◌++◌, append-nil, sym, ap, subst, arith, Option, None, Some, ⊎_elim}
use Rattle.shard_disk.specs.Health.{Ages, Failed, Health, last_count}
use Rattle.shard_disk.specs.declared.disk.Disk.{Ghosts}
use Rattle.point_model.specs.Histories.{State, state_after}
use Rattle.point_model.specs.declared.entry.Entry.{Entry}
use Rattle.point_model.proofs.HistoryLemmas.{state_after-append}
use Rattle.shard_state.specs.History.{Attempt, Made}
use Rattle.shard_steps.specs.Shards.{IsReady, Runs, state_of}
use Rattle.shard_steps.specs.declared.shard.Shard.{Shard}
use Rattle.shard_calls.specs.Holds.{HoldsSeries}
use Rattle.shard_calls.proofs.StoreLemmas.{GoesTo, MakesEntry, MakesNone, Stayed, holds_refused, holds_then, noted_tried, wider}
use Rattle.shard_shared.specs.Entries.{entries_in, made_by}
use Rattle.shard_shared.specs.Reaching.{HasFailed, ComesTo, ComesFrom, RanFrom, RunsTo, entered_by}
use Rattle.shard_shared.specs.declared.engine.Entered.{Entered}
use Rattle.shard_shared.proofs.EntriesLemmas.{entries_in-append, made_by-append}

-- Health.

capped : (start count before now last : ℕ) → min (start + count) last ≤ before → min (before + 1) last ≤ now → min (start + (count + 1)) last ≤ now
capped start count before now last was rose = omega (arith, was, rose)

pub failed_more : (start old new : Health) (count : ℕ) → HasFailed start count old → Ages old new → Failed old new → HasFailed start (count + 1) new
failed_more start old new count was ages failed = record {
  ages = record {
    later = let first = was.ages.later in let then = ages.later in omega (arith, first, then);
    steady = λ is. let same = was.ages.steady is in ages.steady (ap (λ (h : Health). h.is_steady) same ∙ is) ∙ same;
  };
  counted = capped start.faults count old.faults new.faults last_count was.counted failed.rose;
  quiet = λ none. absurd (omega (arith, none));
}

pub failed_same : (start old new : Health) (count : ℕ) → HasFailed start count old → new ≡ old → HasFailed start count new
failed_same start old new count was same = subst (λ (h : Health). HasFailed start count h) (sym same) was

-- Entries.

module _ {D R W : Type 0} (g : Ghosts D R W) where
  pub reaches_more : (start : Shard D) (made : Entry) (number faults : ℕ) (tried : List Attempt) (entered : List Entered) (old new : Shard D)
      → MakesEntry made number old new → IsReady g new → g.handed_out new.logs.disk ≡ g.handed_out old.logs.disk → g.health new.logs.disk ≡ g.health old.logs.disk
      → ComesTo g start faults tried entered old → ComesTo g start faults tried (entered ++ entered_by g made new ∷ []) new
  reaches_more start made number faults tried entered old new makes ready handed quiet was = record {
    ready = ready;
    state = makes.state ∙ ap (λ (s : State). state_after s (made ∷ [])) was.state ∙ sym (state_after-append (state_of start) (entries_in entered) (made ∷ []))
        ∙ ap (λ (es : List Entry). state_after (state_of start) es) (sym (entries_in-append entered (entered_by g made new ∷ [])));
    settings = makes.settings ∙ was.settings;
    handed_out = handed ∙ was.handed_out;
    series = subst (λ (es : List Entry). HoldsSeries start.logs.series.keys es tried new.logs.series.keys) (sym (entries_in-append entered (entered_by g made new ∷ [])))
        (holds_then start.logs.series.keys old.logs.series.keys new.logs.series.keys (entries_in entered) (made ∷ []) tried was.series makes.series);
    health = failed_same (g.health start.logs.disk) (g.health old.logs.disk) (g.health new.logs.disk) faults was.health quiet;
  }

  -- a refusal, with what it may have tried
  pub reaches_same : (start : Shard D) (count faults : ℕ) (asked : Entry) (Fault : Type 0) (tried more now : List Attempt) (entered : List Entered) (old new : Shard D)
      → MakesNone asked old new → Stayed g Fault asked more old new → now ≡ tried ++ more
      → IsReady g new → g.handed_out new.logs.disk ≡ g.handed_out old.logs.disk → HasFailed (g.health start.logs.disk) count (g.health new.logs.disk)
      → ComesTo g start faults tried entered old → ComesTo g start count now entered new
  reaches_same start count faults asked Fault tried more now entered old new none stayed is ready handed health was = record {
    ready = ready;
    state = none.state ∙ was.state;
    settings = none.settings ∙ was.settings;
    handed_out = handed ∙ was.handed_out;
    series = holds_refused g Fault asked start.logs.series.keys (entries_in entered) tried more now old new none stayed is was.series;
    health = health;
  }

  pub reaches_views : (start : Shard D) (faults views : ℕ) (tried : List Attempt) (entered : List Entered) (shard : Shard D) → views ≤ shard.settings.views
      → ComesTo g start faults tried entered shard → ComesTo g start faults tried entered (record shard { views = views })
  reaches_views start faults views tried entered shard few was = record {
    ready = record { logs = was.ready.logs; views = few };
    state = was.state;
    settings = was.settings;
    handed_out = was.handed_out;
    series = was.series;
    health = was.health;
  }

  -- from whatever start
  pub from_any : (start : Option (Shard D)) (faults count : ℕ) (tried now : List Attempt) (entered more : List Entered) (old new : Shard D)
      → ((s : Shard D) → ComesTo g s faults tried entered old → ComesTo g s count now more new) → ComesFrom g start faults tried entered old → ComesFrom g start count now more new
  from_any (Some s) faults count tried now entered more old new goes was = goes s was
  from_any None faults count tried now entered more old new goes was = absurd was

  -- What a crash may leave.

  pub ran_more : (start : Option (Shard D)) (made : Entry) (tried : List Attempt) (entered : List Entered) (old new : Shard D) → GoesTo g made old new
      → RanFrom g start tried entered old → RanFrom g start tried (entered ++ entered_by g made new ∷ []) new
  ran_more (Some start) made tried entered old new goes was = λ tells since from.
      let ran = was tells since from in
      record {
        refused = ran.refused;
        were_tried = ran.were_tried;
        doubt = None;
        runs = subst (λ (ms : List Made). Runs g new (state_of start) since ms ran.refused None) (sym (made_by-append entered (entered_by g made new ∷ [])))
            (goes tells (state_of start) since (made_by entered) ran.refused ran.doubt ran.runs);
      }
  ran_more None made tried entered old new goes was = absurd was

  -- after a refusal, with what it may have tried
  pub ran_same : (start : Option (Shard D)) (asked : Entry) (Fault : Type 0) (tried more now : List Attempt) (entered : List Entered) (old new : Shard D) → Stayed g Fault asked more old new → now ≡ tried ++ more
      → RanFrom g start tried entered old → RanFrom g start now (entered ++ []) new
  ran_same (Some start) asked Fault tried more now entered old new stayed is was = λ tells since from.
      let ran = was tells since from in
      subst (λ (es : List Entered). RunsTo g (state_of start) since (made_by es) now new) (sym (append-nil entered))
      (subst (λ (l : List Attempt). RunsTo g (state_of start) since (made_by entered) l new) (sym is) (⊎_elim
      (λ stays.
      let then = stays.0 tells (state_of start) since (made_by entered) ran.refused ran.doubt ran.runs in
      subst (λ (l : List Attempt). RunsTo g (state_of start) since (made_by entered) (tried ++ l) new) (sym stays.1) (record {
        refused = then.0;
        were_tried = noted_tried tried old.logs.number asked Fault ran.refused then.0 ran.doubt then.1 ran.were_tried then.2;
        doubt = then.1;
        runs = then.3;
      }))
      (λ same. record {
        refused = ran.refused;
        were_tried = wider tried more ran.refused ran.were_tried;
        doubt = ran.doubt;
        runs = subst (λ (s : Shard D). Runs g s (state_of start) since (made_by entered) ran.refused ran.doubt) (sym same.0) ran.runs;
      })
      stayed))
  ran_same None asked Fault tried more now entered old new stayed is was = absurd was

  pub ran_views : (start : Option (Shard D)) (tried : List Attempt) (entered : List Entered) (views : ℕ) (shard : Shard D) → RanFrom g start tried entered shard
      → RanFrom g start tried (entered ++ []) (record shard { views = views })
  ran_views (Some start) tried entered views shard was = λ tells since from.
      let ran = was tells since from in
      subst (λ (es : List Entered). RunsTo g (state_of start) since (made_by es) tried (record shard { views = views })) (sym (append-nil entered))
      (record { refused = ran.refused; were_tried = ran.were_tried; doubt = ran.doubt; runs = record { logs = ran.runs.logs; points = ran.runs.points } })
  ran_views None tried entered views shard was = absurd was

  pub ran_still : (start : Option (Shard D)) (tried : List Attempt) (entered : List Entered) (shard : Shard D) → RanFrom g start tried entered shard → RanFrom g start tried (entered ++ []) shard
  ran_still start tried entered shard was = subst (λ (es : List Entered). RanFrom g start tried es shard) (sym (append-nil entered)) was
