-- Which reply is written, where there may be no memory for it?
use Rattle.std.specs.Prelude.{◌≡◌, ◌⊎◌, ℕ, List, Option, Some, None, Result, Ok, Err}
use Rattle.store_trait.specs.declared.fault.WriteFault.{WriteFault}
use Rattle.store_trait.specs.declared.fault.WriteFault.TheVariants as fault
use Rattle.store_trait.specs.declared.fault.DeleteFault.{DeleteFault}
use Rattle.store_trait.specs.declared.fault.DeleteFault.TheVariants as delete_fault
use Rattle.point_model.specs.declared.fault.CursorFault.{CursorFault}
use Rattle.point_model.specs.declared.fault.CursorFault.TheVariants as cursor_fault
use Rattle.point_model.specs.Rows.{Row}
use Rattle.session_model.specs.Machine.{tables_of}
use Rattle.session_model.specs.Replies.{Reply, text}
use Rattle.session_model.specs.Replies.Reply.{Accepted, Found, Reached, NotReached, NotBuilt, Refused, TypeConflict, HistoryFull, OutOfMemory, DeviceFault, Damaged, CacheFull, SeriesFull}

-- The reply may be longer than the room that is always there: it has names or rows.
abbrev pub IsLong : Reply → Type 0
IsLong (Found number tables) = Unit {0}
IsLong (TypeConflict field held number) = Unit {0}
IsLong (Accepted number) = ⊥
IsLong (Reached number) = ⊥
IsLong (NotReached number) = ⊥
IsLong NotBuilt = ⊥
IsLong (Refused refusal) = ⊥
IsLong HistoryFull = ⊥
IsLong OutOfMemory = ⊥
IsLong DeviceFault = ⊥
IsLong (Damaged file offset) = ⊥
IsLong (CacheFull held) = ⊥
IsLong (SeriesFull held) = ⊥

-- the bytes are the reply, or tell that there was no memory for a long one
abbrev pub IsTextOf : Reply → List ℕ → Type 0
IsTextOf reply bytes = (bytes ≡ text reply) ⊎ (IsLong reply × (bytes ≡ text OutOfMemory))

-- the reply to a batch that a store refused so
abbrev pub reply_to : WriteFault → Reply
reply_to (fault.TypeConflict field held number) = TypeConflict field held number
reply_to fault.HistoryFull = HistoryFull
reply_to (fault.SeriesFull held) = SeriesFull held
reply_to (fault.CacheFull held) = CacheFull held
reply_to fault.Memory = OutOfMemory
reply_to fault.Fault = DeviceFault

-- the number that the refusal tells
abbrev pub number_in : WriteFault → Option ℕ
number_in (fault.TypeConflict field held number) = Some number
number_in fault.HistoryFull = Some 9223372036854775807
number_in (fault.SeriesFull held) = None
number_in (fault.CacheFull held) = None
number_in fault.Memory = None
number_in fault.Fault = None

-- the same of a deletion
abbrev pub reply_to_deletion : DeleteFault → Reply
reply_to_deletion delete_fault.HistoryFull = HistoryFull
reply_to_deletion delete_fault.Memory = OutOfMemory
reply_to_deletion delete_fault.Fault = DeviceFault

abbrev pub number_of_refusal : DeleteFault → Option ℕ
number_of_refusal delete_fault.HistoryFull = Some 9223372036854775807
number_of_refusal delete_fault.Memory = None
number_of_refusal delete_fault.Fault = None

-- the reply to a SELECT whose view gave these rows of the field, as they are seen, or failed
abbrev pub reply_of_view : {X : Type 0} → (X → List Row) → ℕ → List ℕ → List ℕ → Result X CursorFault → Reply
reply_of_view view number measurement field (Ok rows) = Found number (tables_of measurement field (view rows))
reply_of_view view number measurement field (Err cursor_fault.Memory) = OutOfMemory
reply_of_view view number measurement field (Err cursor_fault.Fault) = DeviceFault
reply_of_view view number measurement field (Err (cursor_fault.Damaged damage)) = Damaged damage.file damage.offset
