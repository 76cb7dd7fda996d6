-- All that holds, over every list of events.
use Rattle.std.proofs.Common.{◌≡◌, ⊎_elim, inl, inr, ℕ, ◌+◌, ◌-◌, List, [], ◌∷◌, ◌++◌, ◌∙◌, map, sym, refl, subst, Option, Some, None}
use Rattle.std.specs.Prelude.{IfSome, option_map}
use Rattle.point_model.specs.declared.entry.Entry.{Entry}
use Rattle.point_model.specs.declared.entry.Entry.TheVariants.{Write, Delete}
use Rattle.point_model.specs.Histories.{State, after}
use Rattle.std.specs.Prelude.{filter, not, Bool, true, false}
use Rattle.point_model.specs.Cursors.{Key}
use Rattle.shard_core.specs.Contents.{held}
use Rattle.shard_core.specs.Crashes.{CrashesAndOpens, MayLeave, OpensDirectory}
use Rattle.shard_core.specs.DiskEvents.{CompactsIndex, DoubtsEdit, RecordsFiles, SettlesEdit, WouldMake}
use Rattle.shard_core.specs.EntryEvents.{Deletes, DoubtsEntry, EndsEntryDoubt, Writes, image_with}
use Rattle.shard_core.specs.Events as event
use Rattle.shard_core.specs.Events.{Event}
use Rattle.shard_core.specs.Images.{IsAfter, ImageStands, IsDirectory}
use Rattle.shard_core.specs.Invariant.{Invariant}
use Rattle.shard_core.specs.Kinds.{KindsAgree, OneKind}
use Rattle.shard_core.specs.Laws.{EventsKeep, EveryListKeeps}
use Rattle.shard_core.specs.MergeEvents.{EndsMerge}
use Rattle.shard_core.specs.Numbers.{count}
use Rattle.shard_core.specs.SnapshotEvents.{AbandonsSnapshot, BeginsSnapshot, EndsSnapshot}
use Rattle.shard_core.specs.Files.{now_of, source_numbers}
use Rattle.shard_core.specs.Shown.{image_of, snapshot_contents}
use Rattle.shard_core.specs.State.{Core, Image, Merge, Snapshot, View, points_now}
use Rattle.shard_core.specs.Taken.{Admits, DoubtsTaken, EntriesTaken, IsReadableImage}
use Rattle.shard_core.specs.ViewEvents.{is_gone, view_of}
use Rattle.shard_core.proofs.AcceptanceLemmas.{admitted}
use Rattle.shard_core.proofs.EntryLaws.{deletes_keeps, writes_keeps}
use Rattle.shard_core.proofs.ImageLemmas.{images_stand, opens_keeps}
use Rattle.shard_core.proofs.KindLemmas.{delete_kinds, end_merge_kinds, end_snapshot_kinds, record_kinds, snapshot_kinds, write_kinds}
use Rattle.shard_core.proofs.MergeLaws.{end_merge_keeps}
use Rattle.shard_core.proofs.OpeningLemmas.{images_sound, opened_kinds, opened_taken, sound_more}
use Rattle.shard_core.proofs.OtherLaws.{abandon_merge_keeps, abandon_snapshot_keeps, begin_merge_keeps, begin_snapshot_keeps, begin_view_keeps, compact_index_keeps, doubt_edit_keeps, doubt_keeps, end_view_keeps, purge_keeps, record_keeps, settle_edit_keeps, settle_keeps, store_changes_keeps, store_index_keeps}
use Rattle.shard_core.proofs.SnapshotLaws.{end_snapshot_keeps}
use Rattle.shard_core.proofs.SoundLemmas.{delete_taken, end_merge_taken, end_snapshot_taken, image_sound, record_taken, write_taken}
use Rattle.shard_core.proofs.Standing.{Standing}

-- what holds beside the invariant
pub record Rest (core : Core) : Type 0 where
  pub kinds : KindsAgree core
  pub taken : EntriesTaken core
  pub doubts : DoubtsTaken core

no_image : (image : Image) → None ≡ Some image → IsReadableImage image
no_image image e = absurd (cc)

no_entry : (core : Core) (entry : Entry) → None ≡ Some entry → Admits (held (points_now core)) entry
no_entry core entry e = absurd (cc)

same_image : (made image : Image) → Some made ≡ Some image → made ≡ image
same_image made image e = cc

same_entry : (made entry : Entry) → Some made ≡ Some entry → made ≡ entry
same_entry made entry e = cc

-- an edit's image with an entry more
edit_more : (core : Core) (entry : Entry) → Admits (held (points_now core)) entry → (edit : Option Image) → ((image : Image) → edit ≡ Some image → ImageStands core.start core.history image × IsReadableImage image)
    → (image : Image) → option_map (image_with entry) edit ≡ Some image → IsReadableImage image
edit_more core entry takes None each image e = absurd (cc)
edit_more core entry takes (Some before) each image e =
    let own = each before refl in
    subst IsReadableImage (same_image (image_with entry before) image e) (sound_more core.start core.history before entry own.0 own.1 takes)

-- kinds and logs speak of points, files and doubts alone
rest_with : (core : Core) (merges : List Merge) (views : List View) (condemned : List ℕ) (holds : ℕ → ℕ) (stored : Key → Bool) → Rest core
    → Rest record core { merges = merges; views = views; condemned = condemned; holds = holds; stored = stored }
rest_with core merges views condemned holds stored rest =
    let kinds = rest.kinds in
    let taken = rest.taken in
    let doubts = rest.doubts in
    record {
      kinds = record { now = kinds.now; disk = kinds.disk };
      taken = record { base = taken.base; takes = taken.takes; below = taken.below; leads = taken.leads };
      doubts = record { edit = doubts.edit; entry = doubts.entry };
    }

rest_doubts : (core : Core) (doubt : Option Entry) (edit : Option Image) → ((image : Image) → edit ≡ Some image → IsReadableImage image)
    → ((entry : Entry) → doubt ≡ Some entry → Admits (held (points_now core)) entry) → Rest core → Rest record core { doubt = doubt; edit = edit }
rest_doubts core doubt edit image entry rest =
    let kinds = rest.kinds in
    let taken = rest.taken in
    record {
      kinds = record { now = kinds.now; disk = kinds.disk };
      taken = record { base = taken.base; takes = taken.takes; below = taken.below; leads = taken.leads };
      doubts = record { edit = image; entry = entry };
    }

-- the job of a snapshot says nothing of its contents
rest_job : (core : Core) (snapshot : Snapshot) (out : Bool) → core.snapshot ≡ Some snapshot → Rest core → Rest record core { snapshot = Some (record snapshot { out = out }) }
rest_job core snapshot out stands rest =
    let kinds = rest.kinds in
    let taken = rest.taken in
    let doubts = rest.doubts in
    record {
      kinds = record { now = subst (λ (s : Option Snapshot). OneKind (map now_of core.files ++ (snapshot_contents s ++ held core.cache ∷ []))) stands kinds.now; disk = kinds.disk };
      taken = record { base = taken.base; takes = taken.takes; below = taken.below; leads = taken.leads };
      doubts = record { edit = doubts.edit; entry = doubts.entry };
    }

edit_stands : (core : Core) → Standing core → Rest core → (image : Image) → core.edit ≡ Some image → ImageStands core.start core.history image × IsReadableImage image
edit_stands core inv rest image e =
    let doubts = rest.doubts in
    (subst (λ (o : Option Image). IfSome o (ImageStands core.start core.history)) e inv.edit, doubts.edit image e)

write_rest : (old new : Core) → Writes old new → Standing old → Rest old → Rest new
write_rest old new writes inv rest =
    let taken = admitted (points_now old) (Write writes.client writes.points) writes.may in
    record {
      kinds = write_kinds old new writes taken inv rest.kinds;
      taken = write_taken old new writes taken inv rest.taken;
      doubts = subst DoubtsTaken (sym writes.same)
          (record { edit = edit_more old (Write writes.client writes.points) taken old.edit (edit_stands old inv rest); entry = λ entry s. none_entry entry s });
    }
  where
    none_entry : {P : Type 0} (entry : Entry) → None ≡ Some entry → P
    none_entry entry e = absurd (cc)

delete_rest : (old new : Core) → Deletes old new → Standing old → Rest old → Rest new
delete_rest old new deletes inv rest = record {
  kinds = delete_kinds old new deletes inv rest.kinds;
  taken = delete_taken old new deletes inv rest.taken;
  doubts = subst DoubtsTaken (sym deletes.same)
      (record { edit = edit_more old (Delete deletes.client deletes.deletion) tt old.edit (edit_stands old inv rest); entry = λ entry s. none_entry entry s });
}
  where
    none_entry : {P : Type 0} (entry : Entry) → None ≡ Some entry → P
    none_entry entry e = absurd (cc)

-- an edit is made: none is in doubt
ended_doubts : (old new made : Core) → new ≡ made → made.edit ≡ None → made.doubt ≡ old.doubt → made.start ≡ old.start → made.history ≡ old.history → DoubtsTaken old → DoubtsTaken new
ended_doubts old new made same edit doubt start history doubts =
    subst DoubtsTaken (sym same)
    record {
      edit = λ image s. no_image image (sym edit ∙ s);
      entry = λ entry s. subst (λ (st : State). Admits (held (after st.points made.history)) entry) (sym start)
          (subst (λ (h : List Entry). Admits (held (after old.start.points h)) entry) (sym history) (doubts.entry entry (sym doubt ∙ s)));
    }

would_sound : (old would : Core) → WouldMake old would → Standing old → Rest old → IsReadableImage (image_of would)
would_sound old would (inl ends) inv rest = image_sound would (end_snapshot_kinds old would ends inv rest.kinds) (end_snapshot_taken old would ends inv rest.kinds rest.taken)
would_sound old would (inr (inl ends)) inv rest = image_sound would (end_merge_kinds old would ends inv rest.kinds) (end_merge_taken old would ends inv rest.kinds rest.taken)
would_sound old would (inr (inr (inl records))) inv rest = image_sound would (record_kinds old would records inv rest.kinds) (record_taken old would records inv rest.kinds rest.taken)
would_sound old would (inr (inr (inr same))) inv rest = subst (λ (c : Core). IsReadableImage (image_of c)) (sym same) (image_sound old rest.kinds rest.taken)

begin_snapshot_rest : (old new : Core) → BeginsSnapshot old new → Standing old → Rest old → Rest new
begin_snapshot_rest old new e inv rest =
    let doubts = rest.doubts in
    ⊎_elim
    (λ first.
    let taken = rest.taken in
    record {
      kinds = snapshot_kinds old new e inv rest.kinds;
      taken = subst EntriesTaken (sym first.1) (record { base = taken.base; takes = taken.takes; below = taken.below; leads = taken.leads });
      doubts = subst DoubtsTaken (sym first.1) (record { edit = λ image s. no_image image s; entry = λ entry s. no_entry old entry s });
    })
    (λ again. subst Rest (sym again.3)
    (rest_doubts (record old { snapshot = Some (record again.0 { out = true }) }) None old.edit doubts.edit (λ entry s. no_entry old entry s) (rest_job old again.0 true again.1 rest)))
    e

abandon_snapshot_rest : (old new : Core) → AbandonsSnapshot old new → Rest old → Rest new
abandon_snapshot_rest old new e rest =
    subst Rest (sym e.same)
    (rest_with (record old { snapshot = Some (record e.snapshot { out = false }) }) old.merges old.views (e.adopted ++ old.condemned) old.holds old.stored (rest_job old e.snapshot false e.stands rest))

end_snapshot_rest : (old new : Core) → EndsSnapshot old new → Standing old → Rest old → Rest new
end_snapshot_rest old new e inv rest = record {
  kinds = end_snapshot_kinds old new e inv rest.kinds;
  taken = end_snapshot_taken old new e inv rest.kinds rest.taken;
  doubts = ended_doubts old new _ e.same refl refl refl refl rest.doubts;
}

end_merge_rest : (old new : Core) → EndsMerge old new → Standing old → Rest old → Rest new
end_merge_rest old new e inv rest = record {
  kinds = end_merge_kinds old new e inv rest.kinds;
  taken = end_merge_taken old new e inv rest.kinds rest.taken;
  doubts = ended_doubts old new _ e.same refl refl refl refl rest.doubts;
}

record_rest : (old new : Core) → RecordsFiles old new → Standing old → Rest old → Rest new
record_rest old new e inv rest = record {
  kinds = record_kinds old new e inv rest.kinds;
  taken = record_taken old new e inv rest.kinds rest.taken;
  doubts = ended_doubts old new _ e.same refl refl refl refl rest.doubts;
}

doubt_edit_rest : (old new : Core) → DoubtsEdit old new → Standing old → Rest old → Rest new
doubt_edit_rest old new e inv rest =
    let doubts = rest.doubts in
    subst Rest (sym e.same)
    (rest_doubts old old.doubt (Some (image_of e.would)) (λ image s. subst IsReadableImage (same_image (image_of e.would) image s) (would_sound old e.would e.made inv rest)) doubts.entry rest)

doubt_rest : (old new : Core) → DoubtsEntry old new → Rest old → Rest new
doubt_rest old new e rest =
    let doubts = rest.doubts in
    subst Rest (sym e.same)
    (rest_doubts old (Some e.entry) old.edit doubts.edit
    (λ entry s. subst (λ (x : Entry). Admits (held (points_now old)) x) (same_entry e.entry entry s) (admitted (points_now old) e.entry e.may)) rest)

settle_rest : (old new : Core) → EndsEntryDoubt old new → Rest old → Rest new
settle_rest old new e rest =
    let doubts = rest.doubts in
    subst Rest (sym e) (rest_doubts old None old.edit doubts.edit (λ entry s. no_entry old entry s) rest)

settle_edit_rest : (old new : Core) → SettlesEdit old new → Rest old → Rest new
settle_edit_rest old new e rest =
    let doubts = rest.doubts in
    subst Rest (sym e) (rest_doubts old old.doubt None (λ image s. no_image image s) doubts.entry rest)

compact_index_rest : (old new : Core) → CompactsIndex old new → Rest old → Rest new
compact_index_rest old new e rest =
    let doubts = rest.doubts in
    subst Rest (sym e.same)
    (rest_doubts (record old { stored = old.index; condemned = e.replaced ++ old.condemned }) old.doubt None (λ image s. no_image image s) doubts.entry
    (rest_with old old.merges old.views (e.replaced ++ old.condemned) old.holds old.index rest))

opened_rest : (image : Image) (core : Core) → IsReadableImage image → OpensDirectory image core → Rest core
opened_rest image core readable opens = record {
  kinds = opened_kinds image core readable opens;
  taken = opened_taken image core readable opens;
  doubts = subst DoubtsTaken (sym opens.same) (record { edit = λ other s. no_image other s; entry = λ entry s. none_entry entry s });
}
  where
    none_entry : {P : Type 0} (entry : Entry) → None ≡ Some entry → P
    none_entry entry e = absurd (cc)

-- the invariant is what stands and the rest
whole : (core : Core) → Standing core → Rest core → Invariant core
whole core inv rest = record {
  shows = inv.shows;
  views = inv.views;
  merges = inv.merges;
  apart = inv.apart;
  parts = inv.parts;
  generations = inv.generations;
  holds = inv.holds;
  present = inv.present;
  once = inv.once;
  edit = inv.edit;
  index = inv.index;
  kinds = rest.kinds;
  taken = rest.taken;
  doubts = rest.doubts;
}

pub standing : (core : Core) → Invariant core → Standing core
standing core inv = record {
  shows = inv.shows;
  views = inv.views;
  merges = inv.merges;
  apart = inv.apart;
  parts = inv.parts;
  generations = inv.generations;
  holds = inv.holds;
  present = inv.present;
  once = inv.once;
  edit = inv.edit;
  index = inv.index;
}

rest_of : (core : Core) → Invariant core → Rest core
rest_of core inv = record { kinds = inv.kinds; taken = inv.taken; doubts = inv.doubts }

-- a law for what stands and one for the rest are one for the invariant
both_keep : {E : Type 0} (old new : Core) → (E → Standing old → Standing new) → (E → Standing old → Rest old → Rest new) → E → Invariant old → Invariant new
both_keep old new stands rests e inv = whole new (stands e (standing old inv)) (rests e (standing old inv) (rest_of old inv))

pub images_stand_now : (core : Core) → Invariant core → (more : List Entry) (image : Image) → MayLeave core more image → ImageStands core.start (core.history ++ more) image
images_stand_now core inv = images_stand core (standing core inv)

pub images_readable : (core : Core) → Invariant core → (more : List Entry) (image : Image) → MayLeave core more image → IsReadableImage image
images_readable core inv = images_sound core (standing core inv) inv.kinds inv.taken inv.doubts

pub opens_meets : (image : Image) (core : Core) → IsDirectory image → IsReadableImage image → OpensDirectory image core → Invariant core
opens_meets image core directory readable opens = whole core (opens_keeps image core directory opens) (opened_rest image core readable opens)

crash_meets : (old new : Core) → CrashesAndOpens old new → Invariant old → Invariant new
crash_meets old new crashes inv =
    let stands = images_stand_now old inv crashes.more crashes.image crashes.left in
    opens_meets crashes.image new stands.directory (images_readable old inv crashes.more crashes.image crashes.left) crashes.opens

-- what is opened begins where the history, or the history with the entry in doubt, ended
pub crash_goes_on : (old new : Core) (crashes : CrashesAndOpens old new) → Invariant old → IsAfter old.start (old.history ++ crashes.more) new.start
crash_goes_on old new crashes inv =
    let stands = images_stand_now old inv crashes.more crashes.image crashes.left in
    let opens = crashes.opens in
    subst (λ (core : Core). IsAfter old.start (old.history ++ crashes.more) core.start) (sym opens.same)
    (record { points = λ cell. opens.are cell ∙ stands.shows cell; number = stands.counted })

pub events_keep : EventsKeep
events_keep = record {
  write = λ old new. both_keep old new (writes_keeps old new) (write_rest old new);
  delete = λ old new. both_keep old new (deletes_keeps old new) (delete_rest old new);
  doubt = λ old new. both_keep old new (doubt_keeps old new) (λ e inv. doubt_rest old new e);
  settle = λ old new. both_keep old new (settle_keeps old new) (λ e inv. settle_rest old new e);
  begin_snapshot = λ old new. both_keep old new (begin_snapshot_keeps old new) (begin_snapshot_rest old new);
  end_snapshot = λ old new. both_keep old new (end_snapshot_keeps old new) (end_snapshot_rest old new);
  abandon_snapshot = λ old new. both_keep old new (abandon_snapshot_keeps old new) (λ e inv. abandon_snapshot_rest old new e);
  begin_merge = λ old new. both_keep old new (begin_merge_keeps old new)
      (λ e inv rest. subst Rest (sym e.same) (rest_with old (e.merge ∷ old.merges) old.views old.condemned (λ n. old.holds n + count n (source_numbers e.merge)) old.stored rest));
  end_merge = λ old new. both_keep old new (end_merge_keeps old new) (end_merge_rest old new);
  abandon_merge = λ old new. both_keep old new (abandon_merge_keeps old new)
      (λ e inv rest. subst Rest (sym e.same) (rest_with old (e.earlier ++ e.others) old.views (e.adopted ++ old.condemned) (λ n. old.holds n - count n (source_numbers e.merge)) old.stored rest));
  begin_view = λ old new. both_keep old new (begin_view_keeps old new)
      (λ e inv rest. subst Rest (sym e.same) (rest_with old old.merges (view_of old e.held ∷ old.views) old.condemned (λ n. old.holds n + count n e.held) old.stored rest));
  end_view = λ old new. both_keep old new (end_view_keeps old new)
      (λ e inv rest. subst Rest (sym e.same) (rest_with old old.merges (e.earlier ++ e.others) old.condemned (λ n. old.holds n - count n (let v = e.view in v.held)) old.stored rest));
  purge = λ old new. both_keep old new (purge_keeps old new)
      (λ e inv rest. subst Rest (sym e.same) (rest_with old old.merges old.views (filter (λ n. not (is_gone old.holds e.reached n)) old.condemned) old.holds old.stored rest));
  write_record = λ old new. both_keep old new (record_keeps old new) (record_rest old new);
  doubt_edit = λ old new. both_keep old new (doubt_edit_keeps old new) (doubt_edit_rest old new);
  settle_edit = λ old new. both_keep old new (settle_edit_keeps old new) (λ e inv. settle_edit_rest old new e);
  store_changes = λ old new. both_keep old new (store_changes_keeps old new)
      (λ e inv rest. subst Rest (sym e.same) (rest_with old old.merges old.views old.condemned old.holds e.stored rest));
  store_index = λ old new. both_keep old new (store_index_keeps old new)
      (λ e inv rest. subst Rest (sym e) (rest_with old old.merges old.views old.condemned old.holds old.index rest));
  compact_index = λ old new. both_keep old new (compact_index_keeps old new) (λ e inv. compact_index_rest old new e);
  crash = crash_meets;
}

event_keeps : (old new : Core) → Event old new → Invariant old → Invariant new
event_keeps old new (event.write e) = events_keep.write old new e
event_keeps old new (event.delete e) = events_keep.delete old new e
event_keeps old new (event.doubt e) = events_keep.doubt old new e
event_keeps old new (event.settle e) = events_keep.settle old new e
event_keeps old new (event.begin_snapshot e) = events_keep.begin_snapshot old new e
event_keeps old new (event.end_snapshot e) = events_keep.end_snapshot old new e
event_keeps old new (event.abandon_snapshot e) = events_keep.abandon_snapshot old new e
event_keeps old new (event.begin_merge e) = events_keep.begin_merge old new e
event_keeps old new (event.end_merge e) = events_keep.end_merge old new e
event_keeps old new (event.abandon_merge e) = events_keep.abandon_merge old new e
event_keeps old new (event.begin_view e) = events_keep.begin_view old new e
event_keeps old new (event.end_view e) = events_keep.end_view old new e
event_keeps old new (event.purge e) = events_keep.purge old new e
event_keeps old new (event.write_record e) = events_keep.write_record old new e
event_keeps old new (event.doubt_edit e) = events_keep.doubt_edit old new e
event_keeps old new (event.settle_edit e) = events_keep.settle_edit old new e
event_keeps old new (event.store_changes e) = events_keep.store_changes old new e
event_keeps old new (event.store_index e) = events_keep.store_index old new e
event_keeps old new (event.compact_index e) = events_keep.compact_index old new e
event_keeps old new (event.crash e) = events_keep.crash old new e

pub every_list_keeps : EveryListKeeps
every_list_keeps core [] inv events = tt
every_list_keeps core (next ∷ rest) inv events = let now = event_keeps core next events.0 inv in (now, every_list_keeps next rest now events.1)
