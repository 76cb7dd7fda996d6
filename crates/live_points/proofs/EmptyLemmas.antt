-- Without points all holds.
use Rattle.std.proofs.Common.{◌≡◌, ◌∙◌, ap, sym, subst, ℕ, false, List, [], Option, None, option_and_then}
use Rattle.std.specs.BTreeMap.{BTreeMap, get, is_at}
use Rattle.std.specs.BTreeSet.{contains}
use Rattle.std.specs.List.{list_any}
use Rattle.std.proofs.lemmas.Bool.{false≢true}
use Rattle.point_model.specs.Acceptance.{IsStored}
use Rattle.point_model.specs.Cursors.{Key, key_cmp}
use Rattle.point_model.specs.Points.{no_points}
use Rattle.point_model.proofs.StoredLemmas.{all_among, none_some, test_sorted}
use Rattle.point_cache.specs.declared.key_points.KeyRun.{KeyRun}
use Rattle.store_trait.specs.Slots.{text_cmp}
use Rattle.store_trait.proofs.MapLemmas.{nothing_in}
use Rattle.live_points.specs.Known.{Holds, Keys, Samples, sample_of}

none_stored : IsStored no_points
none_stored = record {
  sound = record { ordered = test_sorted no_points tt; one_kind = λ a b v w at_a at_b same. absurd (none_some v at_a) };
  cells = all_among _ no_points (λ e m. absurd m);
}

pub nothing_holds : (runs : List KeyRun) (keys : Keys) (samples : Samples) → runs ≡ [] → keys.keys ≡ [] → samples.entries ≡ [] → Holds runs keys samples
nothing_holds runs keys samples none no_keys no_samples = subst (λ (rs : List KeyRun). Holds rs keys samples) (sym none) (record {
  are_runs = record { each = tt; apart = tt };
  stored = none_stored;
  known = λ bytes time some. absurd (false≢true some);
  marked = λ key known. absurd (false≢true (sym (unknown key) ∙ known));
  placed = λ measurement field series is. absurd (none_some series (sym (unsampled measurement field) ∙ is));
  sampled = λ key known some. absurd (false≢true some);
})
  where
    unknown : (key : Key) → contains key_cmp keys key ≡ false
    unknown key = ap (λ ks. list_any (is_at (key_cmp key)) ks) no_keys

    unsampled : (measurement field : List ℕ) → sample_of samples measurement field ≡ None
    unsampled measurement field = ap (λ (o : Option (BTreeMap (List ℕ) (List ℕ))). option_and_then (λ fields. get text_cmp fields field) o) (nothing_in text_cmp samples no_samples measurement)
