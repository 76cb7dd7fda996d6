-- Records that are read one behind the other.
use Rattle.std.proofs.Common.{◌≡◌, ℕ, ◌+◌, ◌<◌, ◌≤◌, max, List, [], ◌∷◌, ◌++◌, length, map, refl, sym, ap, subst, ◌∙◌, arith}
use Rattle.std.specs.List.{range_with_len}
use Rattle.std.proofs.lemmas.List.{append_assoc, append-nil, length-append, map-append}
use Rattle.gate_log.specs.Records.{spelled}
use Rattle.point_model.specs.declared.entry.Entry.{Entry}
use Rattle.shard_disk.specs.declared.damage.Damage.{Damage}
use Rattle.shard_disk.specs.declared.damage.Why.{Why}
use Rattle.wal_store.specs.declared.replay.Place.{Place}
use Rattle.wal_store.specs.Replay.{AreCounted, IsStrange, Logged, StandsStrange, past}
use Rattle.wal_store.specs.Reading.{Ends, Follows, Gives, HasRead, NextIsStrange, Passes, Reads, Replaying, TakesAll, entries_past, with_record}
use Rattle.wal_store.specs.Segments.{Segments, SpellsRecord}
use Rattle.wal_store.proofs.ReplayLemmas.{are_more, counted_more, is_below, is_past, leads_of, newest_more, past_more, spelled_more}

-- ---- no record, and one record after another

has_nothing_more : (r : Replaying) (before here : List Logged) (records : List (List ℕ)) → HasRead r before here records → HasRead r before (here ++ []) (records ++ [])
has_nothing_more r before here records has =
    subst (λ (h : List Logged). HasRead r before h (records ++ [])) (sym (append-nil here)) (subst (HasRead r before here) (sym (append-nil records)) has)

pub reads_none : (r : Replaying) → Reads r r [] []
reads_none r = record {
  parts = refl;
  on = λ before here records has. record {
    more = [];
    has = has_nothing_more r before here records has;
    past_floor = ap (λ (h : List Logged). entries_past r.floor (before ++ h)) (append-nil here) ∙ sym (append-nil (entries_past r.floor (before ++ here)));
  };
  floor = refl;
  same = refl;
}

pub reads_then : (a b c : Replaying) (read more : List (List ℕ)) (xs ys : List Entry) → Reads a b read xs → Reads b c more ys → Reads a c (read ++ more) (xs ++ ys)
reads_then a b c read more xs ys first then = record {
  parts = first.parts ∙ ap (λ (l : List (List ℕ)). read ++ l) then.parts ∙ sym (append_assoc read more c.left);
  on = λ before here records has.
      let one = first.on before here records has in
      let two = then.on before (here ++ one.more) (records ++ read) one.has in
      record {
        more = one.more ++ two.more;
        has = subst (λ (h : List Logged). HasRead c before h (records ++ (read ++ more))) (append_assoc here one.more two.more)
            (subst (HasRead c before ((here ++ one.more) ++ two.more)) (append_assoc records read more) two.has);
        past_floor = ap (λ (h : List Logged). entries_past c.floor (before ++ h)) (sym (append_assoc here one.more two.more)) ∙ two.past_floor
            ∙ ap (λ (es : List Entry). es ++ ys) one.past_floor ∙ append_assoc (entries_past a.floor (before ++ here)) xs ys;
      };
  floor = then.floor ∙ first.floor;
  same = then.same ∙ ap (λ (w : Segments). record w { newest_here = c.wal.newest_here; last = c.wal.last }) first.same;
}

-- ---- one record

behind : (floor : ℕ) (before here : List Logged) (l : Logged) (more : List Logged) → past floor (l ∷ []) ≡ more → past floor (before ++ (here ++ l ∷ [])) ≡ past floor (before ++ here) ++ more
behind floor before here l more is = ap (past floor) (sym (append_assoc before here (l ∷ []))) ∙ past_more floor (before ++ here) l more is

module _ (old : Replaying) (rest : List (List ℕ)) (number : ℕ) (entry : Entry) (body : List ℕ) (next : old.left ≡ body ∷ rest) (spells : SpellsRecord number entry body) where
  abbrev after : Replaying
  after = with_record (record { floor = old.floor; wal = old.wal; left = rest; gate = old.gate }) number (length body)

  abbrev l : Logged
  l = record { number = number; entry = entry }

  at_gate : (records : List (List ℕ)) → old.gate ≡ length (spelled records) → old.gate + (9 + length body) ≡ length (spelled (records ++ body ∷ []))
  at_gate records is = omega (arith, is, spelled_more records body)

  same_below : (before here : List Logged) → number ≤ old.floor → past old.floor (before ++ (here ++ l ∷ [])) ≡ past old.floor (before ++ here)
  same_below before here low = behind old.floor before here l [] (is_below old.floor l low) ∙ append-nil (past old.floor (before ++ here))

  has_below : (before here : List Logged) (records : List (List ℕ)) → number ≤ old.floor → HasRead old before here records → HasRead after before (here ++ l ∷ []) (records ++ body ∷ [])
  has_below before here records low has =
      let same = same_below before here low in
      record {
        are = are_more here records l body has.are spells;
        counted = subst (λ (p : List Logged). map (λ (x : Logged). x.number) p ≡ range_with_len (old.floor + 1) (length p)) (sym same) has.counted;
        last = omega (arith, low, has.last, ap length same);
        most = omega (arith, low, has.last, has.most);
        newest = ap (λ (n : ℕ). max n number) has.newest ∙ sym (newest_more here l);
        gate = at_gate records has.gate;
      }

  pub reads_below : number ≤ old.floor → Reads old after (body ∷ []) []
  reads_below low = record {
    parts = next;
    on = λ before here records has. record {
      more = l ∷ [];
      has = has_below before here records low has;
      past_floor = ap (λ (p : List Logged). map (λ (x : Logged). x.entry) p) (same_below before here low) ∙ sym (append-nil (entries_past old.floor (before ++ here)));
    };
    floor = refl;
    same = refl;
  }

  same_next : (before here : List Logged) → old.floor < number → past old.floor (before ++ (here ++ l ∷ [])) ≡ past old.floor (before ++ here) ++ l ∷ []
  same_next before here high = behind old.floor before here l (l ∷ []) (is_past old.floor l high)

  has_next : (before here : List Logged) (records : List (List ℕ)) → old.floor < number → number ≡ old.wal.last + 1 → HasRead old before here records → HasRead after before (here ++ l ∷ []) (records ++ body ∷ [])
  has_next before here records high counts has =
      let same = same_next before here high in
      record {
        are = are_more here records l body has.are spells;
        counted = subst (λ (p : List Logged). map (λ (x : Logged). x.number) p ≡ range_with_len (old.floor + 1) (length p)) (sym same)
            (counted_more old.floor (past old.floor (before ++ here)) l has.counted (omega (arith, counts, has.last)));
        last = omega (arith, counts, has.last, ap length same, length-append (past old.floor (before ++ here)) (l ∷ []));
        most = omega (arith, counts, spells.most);
        newest = ap (λ (n : ℕ). max n number) has.newest ∙ sym (newest_more here l);
        gate = at_gate records has.gate;
      }

  pub reads_next : old.floor < number → number ≡ old.wal.last + 1 → Reads old after (body ∷ []) (entry ∷ [])
  reads_next high counts = record {
    parts = next;
    on = λ before here records has. record {
      more = l ∷ [];
      has = has_next before here records high counts has;
      past_floor = ap (λ (p : List Logged). map (λ (x : Logged). x.entry) p) (same_next before here high) ∙ map-append (λ (x : Logged). x.entry) (past old.floor (before ++ here)) (l ∷ []);
    };
    floor = refl;
    same = refl;
  }

-- ---- so many records, none of which is past the floor

pub passed_none : (r : Replaying) → Passes r r
passed_none r = record { passed = []; reads = reads_none r; gate = omega arith }

-- the next record was read
module _ (first now new : Replaying) (number : ℕ) (entry : Entry) (passed : Passes first now) (next : Follows now new number entry) where
  pub passed_more : number ≤ now.floor → Passes first new
  passed_more low =
      let all = after now next.rest number entry next.body next.parts next.spells in
      subst (Passes first) (sym next.is) (record {
        passed = passed.passed ++ next.body ∷ [];
        reads = reads_then first now all passed.passed (next.body ∷ []) [] [] passed.reads (reads_below now next.rest number entry next.body next.parts next.spells low);
        gate = omega (arith, passed.gate, spelled_more passed.passed next.body);
      })

  pub gives : now.floor < number → (place : Place) → place ≡ record { file = now.wal.log.file; offset = now.gate } → Gives first new place entry
  gives high place at =
      let counts = next.next high in
      let all = after now next.rest number entry next.body next.parts next.spells in
      subst (λ (r : Replaying). Gives first r place entry) (sym next.is) (record {
        passed = passed.passed;
        body = next.body;
        reads = reads_then first now all passed.passed (next.body ∷ []) [] (entry ∷ []) passed.reads (reads_next now next.rest number entry next.body next.parts next.spells high counts);
        spells = let same : max now.wal.last number ≡ number = omega (arith, counts) in subst (λ (n : ℕ). SpellsRecord n entry next.body) (sym same) next.spells;
        file = ap (λ (p : Place). p.file) at ∙ ap (λ (w : Segments). w.log.file) passed.reads.same;
        offset = ap (λ (p : Place). p.offset) at ∙ passed.gate;
      })

-- no record is left
pub ends : (first now new : Replaying) → Passes first now → now.left ≡ [] → new ≡ now → Ends first new
ends first now new passed none same =
    subst (Ends first) (sym same) (record {
      reads = subst (λ (read : List (List ℕ)). Reads first now read []) (sym (passed.reads.parts ∙ ap (λ (l : List (List ℕ)). passed.passed ++ l) none ∙ append-nil passed.passed)) passed.reads;
      none = none;
    })

-- a record that isn't the next one is named at its gate
pub strange_at : (first now : Replaying) (damage : Damage) → Passes first now → NextIsStrange damage now
    → (before here : List Logged) (records : List (List ℕ)) → HasRead first before here records → StandsStrange damage first.wal.log.file first.floor before (records ++ first.left)
strange_at first now damage passed next before here records has =
    let on = passed.reads.on before here records has in
    let floor = passed.reads.floor in
    let all = before ++ (here ++ on.more) in
    record {
      before = records ++ passed.passed;
      state = all;
      body = next.body;
      others = next.rest;
      parts = ap (λ (l : List (List ℕ)). records ++ l) (passed.reads.parts ∙ ap (λ (l : List (List ℕ)). passed.passed ++ l) next.parts) ∙ sym (append_assoc records passed.passed (next.body ∷ next.rest));
      lead = leads_of first.floor before (here ++ on.more) (records ++ passed.passed) on.has.are (subst (λ (f : ℕ). AreCounted f all) floor on.has.counted);
      strange = subst (λ (w : Why). IsStrange w first.floor all next.body) (sym (ap (λ (d : Damage). d.why) next.is))
          (subst (λ (f : ℕ). IsStrange next.why f all next.body) floor (next.strange before (here ++ on.more) (records ++ passed.passed) on.has));
      file = ap (λ (d : Damage). d.file) next.is ∙ ap (λ (w : Segments). w.log.file) passed.reads.same;
      gate = ap (λ (d : Damage). d.offset) next.is ∙ on.has.gate;
    }

-- ---- a segment to its end

-- so much was read since the first, and these entries past the floor were taken
pub record Taken (first now : Replaying) (entries entries' : List Entry) : Type 0 where
  pub read : List (List ℕ)
  pub given : List Entry
  pub reads : Reads first now read given
  pub behind : entries' ≡ entries ++ given

pub taken_none : (r : Replaying) (entries : List Entry) → Taken r r entries entries
taken_none r entries = record { read = []; given = []; reads = reads_none r; behind = sym (append-nil entries) }

pub taken_more : (first now new : Replaying) (place : Place) (entry : Entry) (entries so_far entries' : List Entry) → Taken first now entries so_far → Gives now new place entry → entries' ≡ so_far ++ entry ∷ [] → Taken first new entries entries'
taken_more first now new place entry entries so_far entries' taken gives is = record {
  read = taken.read ++ (gives.passed ++ gives.body ∷ []);
  given = taken.given ++ entry ∷ [];
  reads = reads_then first now new taken.read (gives.passed ++ gives.body ∷ []) taken.given (entry ∷ []) taken.reads gives.reads;
  behind = is ∙ ap (λ (es : List Entry). es ++ entry ∷ []) taken.behind ∙ append_assoc entries taken.given (entry ∷ []);
}

pub takes_all : (first now new : Replaying) (entries entries' : List Entry) → Taken first now entries entries' → Ends now new → TakesAll first new entries entries'
takes_all first now new entries entries' taken ends = record {
  given = taken.given;
  reads = subst (λ (es : List Entry). Reads first new first.left es) (append-nil taken.given)
      (subst (λ (read : List (List ℕ)). Reads first new read (taken.given ++ [])) (sym taken.reads.parts) (reads_then first now new taken.read now.left taken.given [] taken.reads ends.reads));
  none = ends.none;
  behind = taken.behind;
}

-- what is strange behind what was read is so behind the first
pub strange_back : (first now : Replaying) (damage : Damage) (read : List (List ℕ)) (given : List Entry) → Reads first now read given
    → ((before here : List Logged) (records : List (List ℕ)) → HasRead now before here records → StandsStrange damage now.wal.log.file now.floor before (records ++ now.left))
    → (before here : List Logged) (records : List (List ℕ)) → HasRead first before here records → StandsStrange damage first.wal.log.file first.floor before (records ++ first.left)
strange_back first now damage read given reads strange before here records has =
    let on = reads.on before here records has in
    let there = strange before (here ++ on.more) (records ++ read) on.has in
    let all : (records ++ read) ++ now.left ≡ records ++ first.left = append_assoc records read now.left ∙ ap (λ (l : List (List ℕ)). records ++ l) (sym reads.parts) in
    subst (λ (n : ℕ). StandsStrange damage n first.floor before (records ++ first.left)) (ap (λ (w : Segments). w.log.file) reads.same)
    (subst (λ (f : ℕ). StandsStrange damage now.wal.log.file f before (records ++ first.left)) reads.floor
    (subst (StandsStrange damage now.wal.log.file now.floor before) all there))
