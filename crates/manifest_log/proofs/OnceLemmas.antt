-- A disk is read in one way: its file 0 is the manifest of one directory at most, and then nothing is wrong with it.
use Rattle.std.proofs.Common.{◌≡◌, ◌≢◌, ℕ, List, [], ◌∷◌, refl, sym, ap, ◌∙◌, subst, arith, ⊎_elim, Option, Some, None, IsSome, Result, Ok, Err}
use Rattle.std.specs.FinMap.{get}
use Rattle.std.specs.List.{AllByRecursion}
use Rattle.std.specs.Option.{IsSomeAnd}
use Rattle.shard_disk.specs.declared.damage.Damage.{Damage}
use Rattle.shard_disk.specs.Crash.{Crashes}
use Rattle.shard_disk.specs.Directory.{Directory as Files}
use Rattle.shard_disk.specs.Directory.{HasFile}
use Rattle.gate_log.specs.Damage.{IsLog}
use Rattle.gate_log.specs.Following.{IsExact, IsFileOf, Leads}
use Rattle.gate_log.specs.Following as wrong_log
use Rattle.gate_log.specs.Log.{Stands}
use Rattle.gate_log.specs.Records.{AllFit, IsGated}
use Rattle.gate_log.specs.declared.log.Log.{Log}
use Rattle.gate_log.proofs.Unique.{gated_log, one_log, one_standing}
use Rattle.gate_log.proofs.FollowingLemmas.{one_state, plain_exact}
use Rattle.gate_log.proofs.FollowingLemmas as following
use Rattle.manifest_log.specs.declared.change.Change.{Change}
use Rattle.manifest_log.specs.declared.directory.Directory.{Directory}
use Rattle.manifest_log.specs.Found.{HasNoManifest}
use Rattle.manifest_log.specs.Format.{IsWritable}
use Rattle.manifest_log.specs.Edits.{Leave, all_changed, empty}
use Rattle.manifest_log.specs.Reading.{HasNoSegment, IsFresh, IsManifest, IsWrong, Lead, Reads, Takes, bodies_of, manifest_grammar}
use Rattle.manifest_log.proofs.EditLemmas.{same_edit}
use Rattle.manifest_log.proofs.LookLemmas.{none_there}

-- a record makes one directory of another at most
takes_one : (old : Directory) (body : List ℕ) (some other : Directory) → Takes old body some → Takes old body other → some ≡ other
takes_one old body some other a b =
    let same : Some some ≡ Some other = sym a.follows.made ∙ ap (all_changed old) (same_edit a.changes b.changes a.written b.written (sym a.are ∙ b.are)) ∙ b.follows.made in cc same

manifest_exact : IsExact manifest_grammar
manifest_exact = plain_exact Takes takes_one

-- edits lead as their records do
pub lead_bodies : (edits : List (List Change)) (old new : Directory) → AllByRecursion IsWritable edits → Leave old edits new → Leads manifest_grammar old (bodies_of edits) new
lead_bodies [] old new written leave = leave
lead_bodies (edit ∷ edits) old new written leave = (leave.0, record { changes = edit; written = written.0; are = refl; follows = leave.1 }, lead_bodies edits leave.0 new written.1 leave.2)

pub lead_fit : (edits : List (List Change)) → AllByRecursion IsWritable edits → AllFit (bodies_of edits)
lead_fit [] written = tt
lead_fit (edit ∷ edits) written = (omega (arith, written.0.short), lead_fit edits written.1)

pub one_directory : (files : Files) (crashes : Crashes) (log : Log) (some others : List (List Change)) (doubt left : Option (List ℕ)) (directory other : Directory)
    → Lead some directory → Lead others other → Stands files crashes log (bodies_of some) doubt → Stands files crashes log (bodies_of others) left → directory ≡ other
one_directory files crashes log some others doubt left directory other a b sa sb =
    let same = one_standing files crashes log (bodies_of some) (bodies_of others) doubt left (lead_fit some a.written) (lead_fit others b.written) sa sb in
    one_state manifest_grammar manifest_exact (bodies_of some) empty directory other (lead_bodies some empty directory a.written a.leave)
    (subst (λ (l : List (List ℕ)). Leads manifest_grammar empty l other) (sym same) (lead_bodies others empty other b.written b.leave))

-- ---- one file

file_of : (edits : List (List Change)) (directory : Directory) (bytes : List ℕ) → IsLog (bodies_of edits) bytes → Lead edits directory → IsFileOf manifest_grammar empty directory bytes
file_of edits directory bytes log lead = record { records = bodies_of edits; log = log; lead = lead_bodies edits empty directory lead.written lead.leave }

pub one_manifest : (bytes : List ℕ) (some other : Directory) → IsManifest some bytes → IsManifest other bytes → some ≡ other
one_manifest bytes some other a b = following.one_file manifest_grammar manifest_exact empty some other bytes (file_of a.edits some bytes a.log a.lead) (file_of b.edits other bytes b.log b.lead)

pub never_wrong : (bytes : List ℕ) (directory : Directory) (damage : Damage) → IsManifest directory bytes → IsWrong damage bytes → ⊥
never_wrong bytes directory damage m wrong = ⊎_elim
    (λ wrong. following.never_wrong manifest_grammar manifest_exact empty directory bytes damage 0 (file_of m.edits directory bytes m.log m.lead) wrong)
    (λ none.
    let same = following.one_file manifest_grammar manifest_exact empty directory none.directory bytes (file_of m.edits directory bytes m.log m.lead) (file_of none.edits none.directory bytes none.log none.lead) in
    m.segment (ap (λ (d : Directory). d.segments) same ∙ none.none))
    wrong

segment_not_wrong : (bytes : List ℕ) (some other : Damage) → HasNoSegment some bytes → wrong_log.IsWrong manifest_grammar empty other 0 bytes → ⊥
segment_not_wrong bytes some other none wrong = following.never_wrong manifest_grammar manifest_exact empty none.directory bytes other 0 (file_of none.edits none.directory bytes none.log none.lead) wrong

pub one_wrong : (bytes : List ℕ) (some other : Damage) → IsWrong some bytes → IsWrong other bytes → some ≡ other
one_wrong bytes some other a b = ⊎_elim
    (λ wrong. ⊎_elim (λ wrong'. following.one_wrong manifest_grammar manifest_exact empty bytes some other 0 wrong wrong') (λ none. absurd (segment_not_wrong bytes other some none wrong)) b)
    (λ none. ⊎_elim (λ wrong. absurd (segment_not_wrong bytes some other none wrong)) (λ none'. none.named ∙ sym none'.named) b)
    a

pub gated_manifest : (bytes : List ℕ) (edits : List (List Change)) (directory : Directory) → edits ≢ [] → Lead edits directory → directory.segments ≢ [] → IsGated (bodies_of edits) bytes → IsManifest directory bytes
gated_manifest bytes edits directory some lead segment gated = record { edits = edits; some = some; log = gated_log (bodies_of edits) bytes (lead_fit edits lead.written) gated; lead = lead; segment = segment }

-- ---- one disk

no_edits : (edits : List (List Change)) → [] ≡ bodies_of edits → edits ≡ []
no_edits [] none = refl
no_edits (e ∷ edits) none = cc none

-- a log without a record is neither a manifest nor wrong
fresh_manifest : (bytes : List ℕ) (directory : Directory) → IsLog [] bytes → IsManifest directory bytes → ⊥
fresh_manifest bytes directory log m = m.some (no_edits m.edits (one_log [] (bodies_of m.edits) bytes log m.log))

pub fresh_wrong : (bytes : List ℕ) (damage : Damage) → IsLog [] bytes → IsWrong damage bytes → ⊥
fresh_wrong bytes damage log wrong = ⊎_elim
    (λ wrong. following.never_wrong manifest_grammar manifest_exact empty empty bytes damage 0 (record { records = []; log = log; lead = refl }) wrong)
    (λ none. none.some (no_edits none.edits (one_log [] (bodies_of none.edits) bytes log none.log)))
    wrong

both : {X R : Type 0} (P Q : X → Type 0) (o : Option X) → IsSomeAnd o P → IsSomeAnd o Q → ((x : X) → P x → Q x → R) → R
both P Q None p q f = absurd p
both P Q (Some x) p q f = f x p q

pub some_of : {X : Type 0} (P : X → Type 0) (o : Option X) → IsSomeAnd o P → IsSome o
some_of P None p = absurd p
some_of P (Some x) p = refl

-- two facts of file 0
at_file : {R : Type 0} (files : Files) (P Q : List ℕ → Type 0) → HasFile files 0 P → HasFile files 0 Q → ((bytes : List ℕ) → P bytes → Q bytes → R) → R
at_file files P Q p q f = both P Q (get files 0) p q f

-- a fresh disk's file 0 has nothing that a log without a record hasn't
fresh_file : (files : Files) (P : List ℕ → Type 0) → IsFresh files → HasFile files 0 P → ((bytes : List ℕ) → IsLog [] bytes → P bytes → ⊥) → ⊥
fresh_file files P fresh here none = ⊎_elim
    (λ nothing. none_there files nothing (some_of P (get files 0) here))
    (λ log. at_file files (IsLog []) P log here none)
    fresh

no_file : (files : Files) (P : List ℕ → Type 0) → HasNoManifest files → HasFile files 0 P → ⊥
no_file files P none here = none.none (some_of P (get files 0) here)

fresh_some : (files : Files) → IsFresh files → HasNoManifest files → ⊥
fresh_some files fresh none = ⊎_elim (λ nothing. none.some nothing) (λ log. no_file files (IsLog []) none log) fresh

fresh_never : (files : Files) (damage : Damage) → IsFresh files → Reads files (Err damage) → ⊥
fresh_never files damage fresh read = ⊎_elim (λ none. fresh_some files fresh none.0) (λ wrong. fresh_file files (IsWrong damage) fresh wrong (λ bytes log is. fresh_wrong bytes damage log is)) read

named_never : (files : Files) (directory : Directory) (damage : Damage) → HasFile files 0 (IsManifest directory) → Reads files (Err damage) → ⊥
named_never files directory damage here read = ⊎_elim
    (λ none. no_file files (IsManifest directory) none.0 here)
    (λ wrong. at_file files (IsManifest directory) (IsWrong damage) here wrong (λ bytes m is. never_wrong bytes directory damage m is))
    read

one_damage : (files : Files) (some other : Damage) → Reads files (Err some) → Reads files (Err other) → some ≡ other
one_damage files some other a b = ⊎_elim
    (λ none. ⊎_elim (λ none'. none.1 ∙ sym none'.1) (λ wrong. absurd (no_file files (IsWrong other) none.0 wrong)) b)
    (λ wrong. ⊎_elim (λ none. absurd (no_file files (IsWrong some) none.0 wrong)) (λ wrong'. at_file files (IsWrong some) (IsWrong other) wrong wrong' (λ bytes x y. one_wrong bytes some other x y)) b)
    a

pub one_reading : (files : Files) (some other : Result (Option Directory) Damage) → Reads files some → Reads files other → some ≡ other
one_reading files (Ok None) (Ok None) a b = refl
one_reading files (Ok None) (Ok (Some d)) a b = absurd (fresh_file files (IsManifest d) a b (λ bytes log m. fresh_manifest bytes d log m))
one_reading files (Ok None) (Err e) a b = absurd (fresh_never files e a b)
one_reading files (Ok (Some d)) (Ok None) a b = absurd (fresh_file files (IsManifest d) b a (λ bytes log m. fresh_manifest bytes d log m))
one_reading files (Ok (Some d)) (Ok (Some e)) a b = ap (λ (x : Directory). Ok (Some x)) (at_file files (IsManifest d) (IsManifest e) a b (λ bytes m n. one_manifest bytes d e m n))
one_reading files (Ok (Some d)) (Err e) a b = absurd (named_never files d e a b)
one_reading files (Err e) (Ok None) a b = absurd (fresh_never files e b a)
one_reading files (Err e) (Ok (Some d)) a b = absurd (named_never files d e b a)
one_reading files (Err e) (Err f) a b = ap (λ (x : Damage). Err x) (one_damage files e f a b)
