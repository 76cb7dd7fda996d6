-- Why the program ended so, from how its one session ended.
use Rattle.std.proofs.Common.{◌≡◌, inl, inr, ℕ, List, [], ◌∷◌, map, Option, refl, arith, sym, subst, ◌⊎◌, ⊎_elim, Ok, Err}
use Rattle.std.specs.Prelude.{◌↔◌, Result}
use Rattle.shard_disk.specs.Health.{Health}
use Rattle.session_io.specs.declared.client.Word.{Word}
use Rattle.session_io.specs.declared.client.Client.{Client}
use Rattle.session_io.specs.declared.report.End.{End}
use Rattle.session_io.specs.declared.report.End.TheVariants.{Read, SourceFault, SinkFault, Memory}
use Rattle.session_io.specs.Clients.{Held, HandsOut}
use Rattle.session_io.specs.Directories.{Left}
use Rattle.tsm_server.specs.Words.{AsksDirectory, AsksMem, AsksRun, AsksShell, IsCommand, Names, standard}
use Rattle.tsm_server.specs.Printing.{code_of}
use Rattle.tsm_server.specs.declared.status.Status.{Status}
use Rattle.tsm_server.specs.declared.status.Status.TheVariants as status
use Rattle.shard_disk.specs.declared.disk.Disk.{Ghosts}
use Rattle.shard_disk.specs.declared.trouble.Trouble.{Trouble}
use Rattle.shard_disk.specs.declared.trouble.Trouble.TheVariants as trouble
use Rattle.gate_log.specs.declared.fault.LogFault.TheVariants as fault
use Rattle.gate_log.specs.declared.fault.LogFault.{LogFault}
use Rattle.engine_session.specs.Clients.{Finished}
use Rattle.engine_session.specs.Devices.{Devices}
use Rattle.tsm_server.specs.Outcomes.{ClosesOne, HasCause, status_by}
use Rattle.tsm_server.specs.Directories.{ClientsCause, ClosesUnserved, DirectoryCause, OpensClients, OpensDir, OpensNone, PathRefused, RefusesDisk, Seen, ServesAll, ServesNobody, graver, gravest, status_by_closing, status_by_opening, status_of}

module _ {D S K C : Type 0} (members : Devices S K C) (words : List Word) (old new : Health) (held_before held_now : Option (List (Held S K C))) (before now : List (Left D)) where
  -- one client was handed out, served and closed
  pub caused : (input output : List ℕ) → AsksMem words input output → (client : Client S K C) → HandsOut input output client held_before held_now → new.faults ≡ old.faults → (end : End) → ClosesOne members client before now end → HasCause members words old new held_before held_now before now (status_by end)
  caused input output asked client handed quiet Read closes = record { input = input; output = output; asked = asked; client = client; handed = handed; quiet = quiet; closes = closes }
  caused input output asked client handed quiet SourceFault closes = ((input, output, asked), inr (inl (record { input = input; output = output; asked = asked; client = client; handed = handed; quiet = quiet; closes = closes })))
  caused input output asked client handed quiet SinkFault closes = ((input, output, asked), inr (inr (record { input = input; output = output; asked = asked; client = client; handed = handed; quiet = quiet; closes = closes })))
  caused input output asked client handed quiet Memory closes = ((input, output, asked), inr (record { input = input; output = output; asked = asked; client = client; handed = handed; quiet = quiet; closes = closes }))

-- a status that isn't that of words
abbrev IsPlainEnd : Status → Type 0
IsPlainEnd status.NoCommand = ⊥
IsPlainEnd _ = Unit {0}

closing_is_plain : (closed : Result (Unit {0}) Trouble) → IsPlainEnd (status_by_closing closed)
closing_is_plain (Ok done) = tt
closing_is_plain (Err trouble.Fault) = tt
closing_is_plain (Err trouble.Memory) = tt

trouble_is_plain : (why : Trouble) → IsPlainEnd (status_of why)
trouble_is_plain trouble.Fault = tt
trouble_is_plain trouble.Memory = tt

end_is_plain : (end : End) → IsPlainEnd (status_by end)
end_is_plain Read = tt
end_is_plain SourceFault = tt
end_is_plain SinkFault = tt
end_is_plain Memory = tt

graver_is_plain : (first next : Status) → IsPlainEnd first → IsPlainEnd next → IsPlainEnd (graver first next)
graver_is_plain status.Served next a b = b
graver_is_plain status.NoCommand next a b = a
graver_is_plain (status.Damaged damage) next a b = a
graver_is_plain status.Fault next a b = a
graver_is_plain status.NoMemory status.Served a b = tt
graver_is_plain status.NoMemory status.NoCommand a b = tt
graver_is_plain status.NoMemory (status.Damaged damage) a b = tt
graver_is_plain status.NoMemory status.Fault a b = tt
graver_is_plain status.NoMemory status.NoMemory a b = tt

gravest_is_plain : (first : Status) (ends : List End) → IsPlainEnd first → IsPlainEnd (gravest first ends)
gravest_is_plain first [] plain = plain
gravest_is_plain first (end ∷ ends) plain = gravest_is_plain (graver first (status_by end)) ends (graver_is_plain first (status_by end) plain (end_is_plain end))

opening_is_plain : (why : LogFault) → IsPlainEnd (status_by_opening why)
opening_is_plain (fault.Damaged damage) = tt
opening_is_plain fault.Fault = tt
opening_is_plain fault.Memory = tt

plain_is_no_word : (s : Status) → IsPlainEnd s → code_of s ≡ 1 → ⊥
plain_is_no_word status.Served plain is = absurd (omega (arith, is))
plain_is_no_word status.NoCommand plain is = absurd plain
plain_is_no_word (status.Damaged damage) plain is = absurd (omega (arith, is))
plain_is_no_word status.Fault plain is = absurd (omega (arith, is))
plain_is_no_word status.NoMemory plain is = absurd (omega (arith, is))

module _ {D R W S K C : Type 0} (g : Ghosts D R W) (members : Devices S K C) (words : List Word) (before now : Seen D S K C) where
  nobody_is_plain : (disk : D) (why : Trouble) (old new : Seen D S K C) (s : Status) → ServesNobody g members disk why old new s → IsPlainEnd s
  nobody_is_plain disk why old new s served = subst IsPlainEnd (sym served.status)
      (graver_is_plain (status_of why) (status_by_closing served.closing) (trouble_is_plain why) (closing_is_plain served.closing))

  clients_are_plain : (disk : D) (names : List Names) (old new : Seen D S K C) (s : Status) → ClientsCause g members disk names old new s → IsPlainEnd s
  clients_are_plain disk names old new s cause = ⊎_elim
      (λ (all : (clients : List (Client S K C)) × (between : Seen D S K C) × OpensClients members names clients old between × ServesAll g members disk clients between new s).
      subst IsPlainEnd (sym all.3.status) (gravest_is_plain (status_by_closing all.3.closing) (map (λ (f : Finished S K C). f.report.end) all.3.finished) (closing_is_plain all.3.closing)))
      (λ (none : ClosesUnserved g members disk names old new s). nobody_is_plain disk none.why none.later new s none.nobody)
      cause

  refused_is_plain : (path : List ℕ) (s : Status) → PathRefused g path before now s → IsPlainEnd s
  refused_is_plain path s refused = ⊎_elim
      (λ (none : (why : Trouble) × OpensNone why before now × (s ≡ status_of why)). subst IsPlainEnd (sym none.2) (trouble_is_plain none.0))
      (λ (some : (disk : D) × (between : Seen D S K C) × OpensDir path disk before between × RefusesDisk g disk between now s).
      subst IsPlainEnd (sym some.3.status) (opening_is_plain some.3.why))
      refused

  -- the words that ask for a directory never end as none
  not_by_directory : (s : Status) → DirectoryCause g members words before now s → code_of s ≡ 1 → ⊥
  not_by_directory s cause is = plain_is_no_word s (⊎_elim
      (λ (refused : PathRefused g cause.path before now s). refused_is_plain cause.path s refused)
      (λ (opened : (disk : D) × (between : Seen D S K C) × OpensDir cause.path disk before between × ClientsCause g members disk cause.names between now s).
      clients_are_plain opened.0 cause.names opened.1 now s opened.3)
      cause.cause) is

  -- and they are a command
  is_command : (path : List ℕ) (names : List Names) → AsksDirectory words path names → IsCommand words
  is_command path names asked = ⊎_elim
      (λ (shell : AsksShell words path × (names ≡ standard ∷ [])). inr (inl (path, shell.0)))
      (λ (run : AsksRun words path names). inr (inr (path, names, run)))
      asked

  abbrev pub Whole : Status → Type 0
  Whole s = HasCause members words before.health now.health before.held now.held before.closed now.closed s ⊎ DirectoryCause g members words before now s

  by_mem : (s : Status) → HasCause members words before.health now.health before.held now.held before.closed now.closed s → (code_of s ≡ 1) ↔ (¬ (IsCommand words))
  by_mem status.Served served = (λ is. absurd (omega (arith, is)), λ no. absurd (no (inl (served.input, served.output, served.asked))))
  by_mem status.NoCommand none = (λ is. none.0, λ no. refl)
  by_mem (status.Damaged damage) none = absurd none
  by_mem status.Fault fault = (λ is. absurd (omega (arith, is)), λ no. absurd (no (inl fault.0)))
  by_mem status.NoMemory memory = (λ is. absurd (omega (arith, is)), λ no. absurd (no (inl memory.0)))

  -- the status is 1 exactly where the words are no command
  pub no_command : (s : Status) → Whole s → (code_of s ≡ 1) ↔ (¬ (IsCommand words))
  no_command s cause = ⊎_elim (by_mem s)
      (λ (over : DirectoryCause g members words before now s). (λ is. absurd (not_by_directory s over is), λ no. absurd (no (is_command over.path over.names over.asked))))
      cause

  left_by_mem : (s : Status) → HasCause members words before.health now.health before.held now.held before.closed now.closed s → code_of s ≡ 1 → now.closed ≡ before.closed
  left_by_mem status.Served served is = absurd (omega (arith, is))
  left_by_mem status.NoCommand none is = none.1
  left_by_mem (status.Damaged damage) none is = absurd none
  left_by_mem status.Fault fault is = absurd (omega (arith, is))
  left_by_mem status.NoMemory memory is = absurd (omega (arith, is))

  -- and then nothing was closed
  pub nothing_closed : (s : Status) → Whole s → code_of s ≡ 1 → now.closed ≡ before.closed
  nothing_closed s cause is = ⊎_elim (λ mem. left_by_mem s mem is) (λ (over : DirectoryCause g members words before now s). absurd (not_by_directory s over is)) cause
