-- What was read is joined, or nothing was named, or it is refused.
use Rattle.std.proofs.Common.{ap, sym, subst, ◌∙◌}
use Rattle.shard_disk.specs.Directory.{Directory}
use Rattle.point_model.specs.Histories.{State}
use Rattle.manifest_log.proofs.FollowLemmas.{if_some_at}
use Rattle.shard_state.specs.Creating.{disk_of}
use Rattle.shard_state.specs.Meaning.{Stands}
use Rattle.shard_state.proofs.Leaving.{leaves_then}
use Rattle.shard_recover.specs.Opening.{Opens}
use Rattle.shard_recover.proofs.CauseLemmas.{if_none_at, if_ok_map}
use Rattle.shard_recover.proofs.NewLemmas.{new_leaves, read_leaves, sound_since}
use Rattle.shard_opening.proofs.OpenedLemmas.{answers_joined, answers_new, creates, keeps_joined, keeps_new, keeps_read}
use Rattle.shard_opening.proofs.opening.open_logs.Goals as goal

pub returns-in-Ok-Some-clause-answers : goal.returns-in-Ok-Some-clause-answers
returns-in-Ok-Some-clause-answers g c =
    answers_joined g.D.Disk c.args.disk c.read_all.new.filling c.args.alloc c.in-Ok-Some.parts c.join.result c.join.ensures.are c.join.ensures.undamaged
    (if_some_at _ c.in-Ok-Some.field-0 c.in-Ok-Some.parts c.in-Ok-Some.field-0-is c.in-Ok-Some.ensures.stood)
    (if_some_at _ c.in-Ok-Some.field-0 c.in-Ok-Some.parts c.in-Ok-Some.field-0-is c.in-Ok-Some.ensures.manifest) c.join.ensures.gone

pub returns-in-Ok-Some-clause-opens : goal.returns-in-Ok-Some-clause-opens
returns-in-Ok-Some-clause-opens g c =
    if_ok_map c.join.result (λ logs had told state sound. had told state (if_some_at _ c.in-Ok-Some.field-0 c.in-Ok-Some.parts c.in-Ok-Some.field-0-is c.in-Ok-Some.ensures.opens told state sound)) c.join.ensures.ok

pub returns-in-Ok-Some-clause-crash : goal.returns-in-Ok-Some-clause-crash
returns-in-Ok-Some-clause-crash g c = λ told state throughout.
    leaves_then (λ (d : Directory). Stands d state) (g.D.Disk.crashes c.args.disk) (g.D.Disk.crashes c.read_all.new.disk) (g.D.Disk.crashes (disk_of c.join.result))
    (read_leaves g.D.Disk told c.args.disk c.read_all.new.disk c.read_all.ensures.files c.read_all.ensures.crash c.read_all.ensures.handed_out state throughout)
    (c.join.ensures.crash told state (if_some_at _ c.in-Ok-Some.field-0 c.in-Ok-Some.parts c.in-Ok-Some.field-0-is c.in-Ok-Some.ensures.opens told state throughout.sound))

pub returns-in-Ok-Some-clause-kept : goal.returns-in-Ok-Some-clause-kept
returns-in-Ok-Some-clause-kept g c =
    keeps_joined g.D.Disk c.args.disk c.read_all.new.disk c.read_all.ensures.files c.read_all.ensures.crash c.read_all.ensures.handed_out (disk_of c.join.result) c.in-Ok-Some.parts.named
    (if_some_at _ c.in-Ok-Some.field-0 c.in-Ok-Some.parts c.in-Ok-Some.field-0-is c.in-Ok-Some.ensures.manifest) c.join.ensures.removes

pub returns-in-Ok-None-clause-answers : goal.returns-in-Ok-None-clause-answers
returns-in-Ok-None-clause-answers g c =
    let fresh = if_none_at c.in-Ok-None.field-0 c.in-Ok-None.field-0-is c.in-Ok-None.ensures.fresh in
    answers_new g.D.Disk c.args.disk c.read_all.new.filling c.open_new.result c.open_new.ensures.first c.open_new.ensures.undamaged fresh.0
    (ap (λ f. f.live.points) fresh.1 ∙ c.requires.none.1)

pub returns-in-Ok-None-clause-opens : goal.returns-in-Ok-None-clause-opens
returns-in-Ok-None-clause-opens g c =
    let fresh = if_none_at c.in-Ok-None.field-0 c.in-Ok-None.field-0-is c.in-Ok-None.ensures.fresh in
    if_ok_map c.open_new.result
    (λ logs had told state sound.
    let blank = sound_since g.D.Disk told c.args.disk c.read_all.new.disk c.read_all.ensures.files c.read_all.ensures.crash c.read_all.ensures.handed_out state (fresh.0 told) sound in
    subst (λ (s : State). Opens g.D.Disk s logs) (sym blank.1) (had told blank.0))
    c.open_new.ensures.ok

pub returns-in-Ok-None-clause-crash : goal.returns-in-Ok-None-clause-crash
returns-in-Ok-None-clause-crash g c = λ told state throughout.
    let fresh = if_none_at c.in-Ok-None.field-0 c.in-Ok-None.field-0-is c.in-Ok-None.ensures.fresh in
    new_leaves g.D.Disk told c.args.disk c.read_all.new.disk c.read_all.ensures.files c.read_all.ensures.crash c.read_all.ensures.handed_out (disk_of c.open_new.result) state (fresh.0 told)
    (creates g.D.Disk c.read_all.new.disk c.open_new.result c.open_new.ensures.crash c.open_new.ensures.refused) throughout

pub returns-in-Ok-None-clause-kept : goal.returns-in-Ok-None-clause-kept
returns-in-Ok-None-clause-kept g c =
    let fresh = if_none_at c.in-Ok-None.field-0 c.in-Ok-None.field-0-is c.in-Ok-None.ensures.fresh in
    keeps_new g.D.Disk c.args.disk c.read_all.new.disk c.read_all.ensures.files c.read_all.ensures.crash c.read_all.ensures.handed_out (disk_of c.open_new.result) fresh.0 c.open_new.ensures.unread

pub returns-in-Err-clause-kept : goal.returns-in-Err-clause-kept
returns-in-Err-clause-kept g c = keeps_read g.D.Disk c.args.disk c.read_all.new.disk c.read_all.ensures.files c.read_all.ensures.crash c.read_all.ensures.handed_out
