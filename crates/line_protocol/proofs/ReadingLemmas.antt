use Rattle.std.proofs.Common.{◌≡◌, Result, Ok, Err, List, ◌∷◌, ◌++◌, [], sym, ap, subst, append_assoc, refl, ◌∙◌}
use Rattle.std.proofs.lemmas.List.{append-nil}
use Rattle.line_protocol.specs.declared.fault.LineCode.{LineCode}
use Rattle.line_protocol.specs.declared.fault.Refusal.{Refusal}
use Rattle.line_protocol.specs.declared.fault.Refusal.TheVariants.{Code, Memory}
use Rattle.line_protocol.specs.declared.field.Field.{Field}
use Rattle.line_protocol.specs.Fields.{Fields, first_before, prefixed}
use Rattle.line_protocol.specs.Readings.{IsRefusal, Refuses, Gives, ◌>>=◌}

-- a refusal of the first step is one of the whole
pub refuses-bind : {X Y : Type 0} (refusal : Refusal) (step : Result X LineCode) (next : X → Result Y LineCode) → Refuses refusal step → Refuses refusal (step >>= next)
refuses-bind {X} (Code code) step next is = ap (λ (s : Result X LineCode). s >>= next) is
refuses-bind Memory step next is = tt

pub refuses-along : {Y : Type 0} (refusal : Refusal) (reading other : Result Y LineCode) → reading ≡ other → Refuses refusal reading → Refuses refusal other
refuses-along (Code code) reading other e is = sym e ∙ is
refuses-along Memory reading other e is = tt

pub gives-along : {X Y : Type 0} (view : X → Y) (given : Result X Refusal) (reading other : Result Y LineCode) → reading ≡ other → Gives view given reading → Gives view given other
gives-along view (Ok value) reading other e is = sym e ∙ is
gives-along view (Err refusal) reading other e is = refuses-along refusal reading other e is

-- a refusal with a code has what that code has
pub refused-weaker : (refusal : Refusal) (P Q : LineCode → Type 0) → ((code : LineCode) → P code → Q code) → IsRefusal refusal P → IsRefusal refusal Q
refused-weaker (Code code) P Q h is = h code is
refused-weaker Memory P Q h is = tt

-- a refusal whose reading has a code
pub refused-from : {Y : Type 0} (refusal : Refusal) (reading : Result Y LineCode) (Q : LineCode → Type 0) → ((code : LineCode) → reading ≡ Err code → Q code) → Refuses refusal reading → IsRefusal refusal Q
refused-from (Code code) reading Q h is = h code is
refused-from Memory reading Q h is = tt

pub prefixed-nil : (reading : Fields) → prefixed [] reading ≡ reading
prefixed-nil (Ok fields) = refl
prefixed-nil (Err code) = refl

pub prefixed-push : (fields : List Field) (field : Field) (more : Fields) → prefixed fields (prefixed (field ∷ []) more) ≡ prefixed (fields ++ field ∷ []) more
prefixed-push fields field (Ok others) = ap (λ (fs : List Field). Ok fs) (sym (append_assoc fields (field ∷ []) others))
prefixed-push fields field (Err code) = refl

pub first-refused : (refusal : Refusal) (reading : Result Field LineCode) (fields : List Field) (more whole : Fields) → prefixed fields (first_before reading more) ≡ whole → Refuses refusal reading → Refuses refusal whole
first-refused (Code code) reading fields more whole e is = sym e ∙ ap (λ (r : Result Field LineCode). prefixed fields (first_before r more)) is
first-refused Memory reading fields more whole e is = tt

pub prefixed-end : (fields : List Field) → prefixed fields (Ok []) ≡ Ok fields
prefixed-end fields = ap (λ (fs : List Field). Ok fs) (append-nil fields)

-- a refusal that is this code
pub refused-code : (refusal : Refusal) (code : LineCode) (P : LineCode → Type 0) → refusal ≡ Code code → IsRefusal refusal P → P code
refused-code refusal code P e is = subst (λ (r : Refusal). IsRefusal r P) e is
