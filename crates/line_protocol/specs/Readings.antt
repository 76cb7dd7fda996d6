-- What a call gave that may want memory, and how the steps of a reading follow one another.
use Rattle.std.specs.Prelude.{◌≡◌, Bool, true, Result, Ok, Err, if◌then◌else◌}
use Rattle.line_protocol.specs.declared.fault.LineCode.{LineCode}
use Rattle.line_protocol.specs.declared.fault.Refusal.{Refusal}
use Rattle.line_protocol.specs.declared.fault.Refusal.TheVariants.{Code, Memory}

-- a refusal with a code has one of these; want of memory tells nothing
abbrev pub IsRefusal : Refusal → (LineCode → Type 0) → Type 0
IsRefusal (Code code) P = P code
IsRefusal Memory P = Unit {0}

-- the reading has the code of the refusal
abbrev pub Refuses : {Y : Type 0} → Refusal → Result Y LineCode → Type 0
Refuses (Code code) reading = reading ≡ Err code
Refuses Memory reading = Unit {0}

-- what the call gave is the reading: its value as it is seen, or its code
abbrev pub Gives : {X Y : Type 0} → (X → Y) → Result X Refusal → Result Y LineCode → Type 0
Gives view (Ok given) reading = reading ≡ Ok (view given)
Gives view (Err refusal) reading = Refuses refusal reading

-- one step behind another: the code is that of the first step that has one
infixl 10 ◌>>=◌
abbrev pub ◌>>=◌ : {X Y : Type 0} → Result X LineCode → (X → Result Y LineCode) → Result Y LineCode
(Ok value) >>= next = next value
(Err code) >>= next = Err code

-- a step that has this code where the fault is there
abbrev pub unless : Bool → LineCode → Result Bool LineCode
unless fault code = if fault then Err code else Ok true
