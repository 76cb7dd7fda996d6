-- What removing other files leaves.
use Rattle.std.proofs.Common.{◌≡◌, ◌≢◌, ◌⊎◌, ⊎_elim, inl, inr, ℕ, zero, suc, ◌+◌, ◌<◌, length, get_or, drop, arith, nat_eq, List, [], ◌∷◌, ◌||◌, Bool, false, refl, sym, ap, ◌∙◌, subst, true, Option, None, IsSome, IsTrue}
use Rattle.std.specs.List.{list_any}
use Rattle.std.specs.FinMap.{get, keys}
use Rattle.std.proofs.lemmas.Bool.{eqb-true, false≢true}
use Rattle.shard_disk.specs.Crash.{Follows, Leaves, Same}
use Rattle.shard_disk.specs.Directory.{Anything, Directory, ChangesAt, IsPresent, Step, Vanishes}
use Rattle.shard_disk.specs.HandedOut.{HandedOut, GivesUp}
use Rattle.shard_disk.specs.declared.disk.Disk.{Ghosts}
use Rattle.shard_disk.proofs.Runs.{NoneBefore, joins, rests, starts, weakens}
use Rattle.shard_recover.specs.Opening.{HasOnly, IsAmong, LeavesOne, Removes, Spares}
use Rattle.shard_recover.proofs.FileLemmas.{among}

-- a file that isn't one of these is another than each of them
pub other : (keep : List ℕ) (number n : ℕ) → list_any (λ y. nat_eq y number) keep ≡ false → IsAmong keep n → n ≢ number
other keep number n none among is = false≢true (sym none ∙ subst (λ (x : ℕ). list_any (λ y. nat_eq y x) keep ≡ true) is among)

spares_other : (keep : List ℕ) (number : ℕ) (step : Step) (old new : Directory) → list_any (λ y. nat_eq y number) keep ≡ false → ChangesAt number step old new → Spares keep old new
spares_other keep number step old new none made n among = made.others n (other keep number n none among)

-- a directory that stays as it is
pub any_kept : (number : ℕ) (old new : Directory) → new ≡ old → ChangesAt number Anything old new
any_kept number old new same = subst (ChangesAt number Anything old) (sym same) (record { here = tt; others = λ n ne. refl })

pub removes_none : {D R W : Type 0} (g : Ghosts D R W) (keep : List ℕ) (disk : D) → NoneBefore (g.crashes disk) → Removes g keep disk disk
removes_none g keep disk none = record {
  files = λ told n among. refl;
  crash = rests (Spares keep) (g.crashes disk) none (λ c now n among. refl);
  adopted = λ n among. refl;
  readers = refl;
  next = refl;
}

pub removes_one : {D R W : Type 0} (g : Ghosts D R W) (keep : List ℕ) (old new : D) (number : ℕ) (step more : Step) → ((o : Option (List ℕ)) → more o o) → NoneBefore (g.crashes old) → list_any (λ y. nat_eq y number) keep ≡ false
    → (IsTrue g.tells → ChangesAt number step (g.files old) (g.files new)) → Follows (ChangesAt number more) (g.crashes old) (g.crashes new) → GivesUp number (g.handed_out old) (g.handed_out new) → Removes g keep old new
removes_one g keep old new number step more still none others made call gone = record {
  files = λ told. spares_other keep number step (g.files old) (g.files new) others (made told);
  crash = weakens (ChangesAt number more) (Spares keep) (g.crashes old) (g.crashes new) (λ d c now change. spares_other keep number more d c others change)
      (starts (ChangesAt number more) (g.crashes old) (g.crashes new) none (λ c. record { here = still (get c number); others = λ n ne. refl }) call);
  adopted = λ n among. gone.others n (other keep number n others among);
  readers = gone.readers;
  next = gone.next;
}

pub removes_then : {D R W : Type 0} (g : Ghosts D R W) (keep : List ℕ) (old mid new : D) → Removes g keep old mid → Removes g keep mid new → Removes g keep old new
removes_then g keep old mid new first second = record {
  files = λ told n among. second.files told n among ∙ first.files told n among;
  crash = joins (Spares keep) (Spares keep) (Spares keep) (g.crashes old) (g.crashes mid) (g.crashes new) (λ d c made. made) (λ d c e one two n among. two n among ∙ one n among) first.crash second.crash;
  adopted = λ n among. second.adopted n among ∙ first.adopted n among;
  readers = second.readers ∙ first.readers;
  next = second.next ∙ first.next;
}

-- nothing was done
pub removes_same : {D R W : Type 0} (g : Ghosts D R W) (keep : List ℕ) (old new : D) → g.files new ≡ g.files old → Leaves Same (g.crashes old) (g.crashes new) → g.handed_out new ≡ g.handed_out old → Removes g keep old new
removes_same g keep old new same run handed = record {
  files = λ told n among. ap (λ (f : Directory). get f n) same;
  crash = weakens Same (Spares keep) (g.crashes old) (g.crashes new) (λ d c now is n among. ap (λ (f : Directory). get f n) is) run;
  adopted = λ n among. ap (λ (h : HandedOut). h.adopted n) handed;
  readers = ap (λ (h : HandedOut). h.readers) handed;
  next = ap (λ (h : HandedOut). h.next_number) handed;
}

-- ---- what is gone

nothing_there : (o : Option (List ℕ)) → o ≡ None → IsSome o → ⊥
nothing_there o none some = subst (λ (x : Option (List ℕ)). IsSome x → ⊥) (sym none) (λ e. false≢true e) some

pub leaves_kept : (keep : List ℕ) (number : ℕ) (files : Directory) → IsAmong keep number → LeavesOne keep number files files
leaves_kept keep number files among = record { others = λ n there. there; here = λ there. among }

pub leaves_gone : (keep : List ℕ) (number : ℕ) (old new : Directory) → ChangesAt number Vanishes old new → LeavesOne keep number old new
leaves_gone keep number old new made = record {
  others = λ n there. subst (λ (o : Option (List ℕ)). IsSome o) (made.others n (λ is. nothing_there (get new number) made.here (subst (λ (k : ℕ). IsPresent new k) is there))) there;
  here = λ there. absurd (nothing_there (get new number) made.here there);
}

pub drop_at : (numbers : List ℕ) (k d : ℕ) → k < length numbers → drop k numbers ≡ get_or numbers k d ∷ drop (k + 1) numbers
drop_at [] k d within = absurd (omega (arith, within))
drop_at (x ∷ numbers) zero d within = refl
drop_at (x ∷ numbers) (suc k) d within =
    let same : suc (k + 1) ≡ suc k + 1 = omega arith in
    drop_at numbers k d (omega (arith, within)) ∙ ap (λ (n : ℕ). get_or numbers k d ∷ drop n (x ∷ numbers)) same

-- of the files that are there each is to be kept, or is one of those that are still looked at
abbrev pub Sweeps : List ℕ → List ℕ → Directory → Type 0
Sweeps keep left files = (n : ℕ) → IsPresent files n → IsAmong keep n ⊎ IsAmong left n

pub sweeps_first : (keep numbers : List ℕ) (files : Directory) → numbers ≡ keys files → Sweeps keep numbers files
sweeps_first keep numbers files are n there = inr (subst (λ (l : List ℕ). IsAmong l n) (sym are) (among files n there))

or_cases : (a b : Bool) → (a || b) ≡ true → (a ≡ true) ⊎ (b ≡ true)
or_cases true b e = inl refl
or_cases false b e = inr e

pub sweeps_more : (keep : List ℕ) (number : ℕ) (left : List ℕ) (old new : Directory) → LeavesOne keep number old new → Sweeps keep (number ∷ left) old → Sweeps keep left new
sweeps_more keep number left old new one so n there = ⊎_elim
    (λ kept. inl kept)
    (λ among. ⊎_elim
    (λ is. let same : number ≡ n = eqb-true number n is in inl (subst (IsAmong keep) same (one.here (subst (IsPresent new) (sym same) there))))
    (λ rest. inr rest)
    (or_cases (nat_eq number n) (list_any (λ y. nat_eq y n) left) among))
    (so n (one.others n there))

pub sweeps_all : (keep : List ℕ) (files : Directory) → Sweeps keep [] files → HasOnly keep files
sweeps_all keep files so n there = ⊎_elim (λ kept. kept) (λ none. absurd (false≢true none)) (so n there)
