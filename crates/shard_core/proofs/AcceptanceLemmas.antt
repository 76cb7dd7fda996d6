-- What the fields of a shard give of contents.
use Rattle.std.proofs.Common.{◌≡◌, ap, refl, IsSome, Some, Bool, true, false, cond, ◌||◌, List, Option, None}
use Rattle.std.specs.List.Sorted.{IsStrictlySortedBy}
use Rattle.std.specs.Map.{keys_of}
use Rattle.tsdb_types.specs.declared.point.Cell.{Cell}
use Rattle.tsdb_types.specs.declared.point.Point.{Point}
use Rattle.tsdb_types.specs.declared.value.Value.{Value}
use Rattle.point_model.specs.declared.deletion.Deletion.{Deletion}
use Rattle.point_model.specs.declared.entry.Entry.{Entry}
use Rattle.point_model.specs.declared.entry.Entry.TheVariants.{Write, Delete}
use Rattle.point_model.specs.Acceptance.{IsAccepted, Takes}
use Rattle.point_model.specs.Deletions.{is_deleted}
use Rattle.point_model.specs.Points.{Points, cell_cmp, value_at}
use Rattle.point_model.proofs.StoredLemmas.{agrees, by_values}
use Rattle.point_model.specs.Contents.{live, spared}
use Rattle.shard_core.specs.Contents.{held}
use Rattle.shard_core.specs.Taken.{AcceptsFields, Admits}

pub live_covered : (deletion : Deletion) (points : Points) (before now : Cell → Bool) → ((cell : Cell) → IsSome (value_at points cell) → now cell ≡ (before cell || is_deleted deletion cell))
    → (cell : Cell) → live points now cell ≡ spared deletion (live points before) cell
live_covered deletion points before now covers cell = by (value_at points cell) (now cell) (before cell) (is_deleted deletion cell) (covers cell)
  where
    by : (o : Option Value) (now before deleted : Bool) → (IsSome o → now ≡ (before || deleted)) → cond now None o ≡ cond deleted None (cond before None o)
    by None true before true covers = refl
    by None true true false covers = refl
    by None true false false covers = refl
    by None false before true covers = refl
    by None false true false covers = refl
    by None false false false covers = refl
    by (Some value) now true true covers = ap (λ (b : Bool). cond b None (Some value)) (covers refl)
    by (Some value) now true false covers = ap (λ (b : Bool). cond b None (Some value)) (covers refl)
    by (Some value) now false true covers = ap (λ (b : Bool). cond b None (Some value)) (covers refl)
    by (Some value) now false false covers = ap (λ (b : Bool). cond b None (Some value)) (covers refl)

-- an entry that the points take is admitted by what they have
pub admitted : (points : Points) (entry : Entry) → Takes points entry → Admits (held points) entry
admitted points (Write client batch) takes = record { accepted = agrees points batch takes.0; one_kind = takes.1 }
admitted points (Delete client deletion) takes = tt

pub is_accepted : (points : Points) (batch : List Point) → IsStrictlySortedBy cell_cmp (keys_of points) → AcceptsFields (held points) batch → IsAccepted points batch
is_accepted points batch sorted accepts = let both = by_values points batch sorted in both.1 accepts.accepted
