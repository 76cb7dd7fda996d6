-- A file is a segment of one list of entries at most, and where they are counted nothing is wrong with it.
use Rattle.std.proofs.Common.{◌≡◌, ◌⊎◌, inl, inr, ⊎_elim, ℕ, ◌<◌, List, [], ◌∷◌, ◌++◌, refl, sym, ap, ◌∙◌, subst}
use Rattle.shard_disk.specs.declared.damage.Damage.{Damage}
use Rattle.shard_disk.specs.declared.damage.Why.{Why}
use Rattle.shard_disk.specs.declared.damage.Why.TheVariants as why
use Rattle.gate_log.specs.Following.{IsExact}
use Rattle.gate_log.proofs.FollowingLemmas as following
use Rattle.gate_log.proofs.Unique.{one_log}
use Rattle.wal_store.specs.Segments.{SpellsRecord}
use Rattle.wal_store.specs.Replay.{AreCounted, AreRecords, IsSegment, IsStrange, IsWrongSegment, Logged, Makes, segment_grammar}
use Rattle.wal_store.proofs.RecordLemmas.{same_record}
use Rattle.wal_store.proofs.ReplayLemmas.{leads_of}

same_logged : (a b : Logged) (body : List ℕ) → SpellsRecord a.number a.entry body → SpellsRecord b.number b.entry body → a ≡ b
same_logged a b body x y = let both = same_record a.number b.number a.entry b.entry body x y in λ i. record { number = both.0 i; entry = both.1 i }

one_logged : (some others : List Logged) (records : List (List ℕ)) → AreRecords some records → AreRecords others records → some ≡ others
one_logged [] [] records a b = refl
one_logged [] (y ∷ others) [] a b = absurd b
one_logged [] (y ∷ others) (r ∷ records) a b = absurd a
one_logged (x ∷ some) [] [] a b = absurd a
one_logged (x ∷ some) [] (r ∷ records) a b = absurd b
one_logged (x ∷ some) (y ∷ others) [] a b = absurd a
one_logged (x ∷ some) (y ∷ others) (r ∷ records) a b =
    let head = same_logged x y r a.0 b.0 in
    let rest = one_logged some others records a.1 b.1 in
    λ i. head i ∷ rest i

pub one_segment : (some other : List Logged) (bytes : List ℕ) → IsSegment some bytes → IsSegment other bytes → some ≡ other
one_segment some other bytes a b =
    let same : a.0 ≡ b.0 = one_log a.0 b.0 bytes (a.2, a.3) (b.2, b.3) in
    one_logged some other b.0 (subst (AreRecords some) same a.1) b.1

-- ---- a body makes one state, or is strange for one reason

one_made : (floor : ℕ) (old : List Logged) (body : List ℕ) (some other : List Logged) → Makes floor old body some → Makes floor old body other → some ≡ other
one_made floor old body some other a b = a.behind ∙ ap (λ (l : Logged). old ++ l ∷ []) (same_logged a.logged b.logged body a.spells b.spells) ∙ sym b.behind

-- a body is strange as no record's or by its number
one_of : (reason : Why) (floor : ℕ) (old : List Logged) (body : List ℕ) → IsStrange reason floor old body → (reason ≡ why.Body) ⊎ (reason ≡ why.Number)
one_of why.Body floor old body strange = inl refl
one_of why.Number floor old body strange = inr refl
one_of why.NoManifest floor old body strange = absurd strange
one_of why.Missing floor old body strange = absurd strange
one_of why.Head floor old body strange = absurd strange
one_of why.Foot floor old body strange = absurd strange
one_of why.Keys floor old body strange = absurd strange
one_of why.Block floor old body strange = absurd strange
one_of (why.Sum stored computed) floor old body strange = absurd strange

never_both : (floor : ℕ) (old : List Logged) (body : List ℕ) → IsStrange why.Body floor old body → IsStrange why.Number floor old body → ⊥
never_both floor old body none wrong = none wrong.0 wrong.1 wrong.2

never_made : (reason : Why) (floor : ℕ) (old : List Logged) (body : List ℕ) (new : List Logged) → Makes floor old body new → IsStrange reason floor old body → ⊥
never_made reason floor old body new made strange =
    ⊎_elim
    (λ is. let none = subst (λ (w : Why). IsStrange w floor old body) is strange in none made.logged.number made.logged.entry made.spells)
    (λ is.
    let wrong = subst (λ (w : Why). IsStrange w floor old body) is strange in
    let same = (same_record made.logged.number wrong.0 made.logged.entry wrong.1 body made.spells wrong.2).0 in
    wrong.4 (sym same ∙ made.next (subst (λ (n : ℕ). floor < n) (sym same) wrong.3)))
    (one_of reason floor old body strange)

one_reason : (some other : Why) (floor : ℕ) (old : List Logged) (body : List ℕ) → IsStrange some floor old body → IsStrange other floor old body → some ≡ other
one_reason some other floor old body a b =
    let so = λ (w v : Why) (is : w ≡ v) (strange : IsStrange w floor old body). subst (λ (x : Why). IsStrange x floor old body) is strange in
    ⊎_elim
    (λ body_a. ⊎_elim (λ body_b. body_a ∙ sym body_b) (λ number_b. absurd (never_both floor old body (so some why.Body body_a a) (so other why.Number number_b b))) (one_of other floor old body b))
    (λ number_a. ⊎_elim (λ body_b. absurd (never_both floor old body (so other why.Body body_b b) (so some why.Number number_a a))) (λ number_b. number_a ∙ sym number_b) (one_of other floor old body b))
    (one_of some floor old body a)

segment_exact : (floor : ℕ) → IsExact (segment_grammar floor)
segment_exact floor = record {
  one = one_made floor;
  never = λ reason old body new made strange. never_made reason floor old body new made strange;
  reason = λ some other old body a b. one_reason some other floor old body a b;
}

-- ---- what a segment is wrong by

pub never_wrong : (damage : Damage) (file floor : ℕ) (before logged : List Logged) (bytes : List ℕ) → IsSegment logged bytes → AreCounted floor (before ++ logged) → IsWrongSegment damage file floor before bytes → ⊥
never_wrong damage file floor before logged bytes is counted wrong =
    following.never_wrong (segment_grammar floor) (segment_exact floor) before (before ++ logged) bytes damage file (record { records = is.0; log = (is.2, is.3); lead = leads_of floor before logged is.0 is.1 counted }) wrong

pub one_wrong : (some other : Damage) (file floor : ℕ) (before : List Logged) (bytes : List ℕ) → IsWrongSegment some file floor before bytes → IsWrongSegment other file floor before bytes → some ≡ other
one_wrong some other file floor before bytes a b = following.one_wrong (segment_grammar floor) (segment_exact floor) before bytes some other file a b
