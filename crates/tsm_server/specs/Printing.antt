-- Which status has the program, and what does it print?
use Rattle.std.specs.Prelude.{◌≡◌, ◌⊎◌, ℕ, List, [], ◌∷◌, ◌++◌, codes, Option}
use Rattle.std.specs.Fmt.{decimal}
use Rattle.shard_disk.specs.Damage.{name_of}
use Rattle.shard_disk.specs.declared.damage.Damage.{Damage}
use Rattle.shard_disk.specs.Health.{Health, Failed, Rose}
use Rattle.session_io.specs.Streams.{Grows}
use Rattle.tsm_server.specs.declared.status.Status.{Status}
use Rattle.tsm_server.specs.declared.status.Status.TheVariants.{Served, NoCommand, Damaged, Fault, NoMemory}

-- what the process ends with
abbrev pub code_of : Status → ℕ
code_of Served = 0
code_of NoCommand = 1
code_of (Damaged damage) = 2
code_of Fault = 3
code_of NoMemory = 4

-- a damage with the number of its file, the offset in it, and the name of what is wrong there
abbrev pub damage_text : Damage → List ℕ
damage_text damage = codes "damaged " ++ decimal damage.file ++ codes " " ++ decimal damage.offset ++ codes " " ++ name_of damage.why ++ 10 ∷ []

-- the line that is printed, with its newline; none where all went well
abbrev pub line_of : Status → List ℕ
line_of Served = []
line_of NoCommand = codes "usage: tsmd mem IN OUT | shell DIR | run DIR IN OUT [IN OUT ..]" ++ 10 ∷ []
line_of (Damaged damage) = damage_text damage
line_of Fault = codes "fault" ++ 10 ∷ []
line_of NoMemory = codes "memory" ++ 10 ∷ []

-- what a sink tells of itself
pub record Said : Type 0 where
  pub written : Option (List ℕ)
  pub health : Health
  pub wants : ℕ

abbrev pub said : {K : Type 0} → (K → Option (List ℕ)) → (K → Health) → (K → ℕ) → K → Said
said written health wants sink = record { written = written sink; health = health sink; wants = wants sink }

-- The sink refused bytes since: it failed, or had no memory for them.
abbrev pub HasRefused : Said → Said → Type 0
HasRefused old new = Failed old.health new.health ⊎ Rose old.wants new.wants

-- A sink took the bytes, or a front of them where it refused what is missing.
pub record Takes (bytes : List ℕ) (old new : Said) : Type 0 where
  pub front : List ℕ
  pub rest : List ℕ
  pub whole : bytes ≡ front ++ rest
  pub taken : Grows old.written new.written front
  pub all : (rest ≡ []) ⊎ HasRefused old new
