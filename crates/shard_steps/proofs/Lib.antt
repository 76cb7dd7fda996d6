pub mod MemberLemmas
mod DeletionLemmas
mod GoingOn
mod ResultLemmas
mod RoomLemmas
mod UnheldLemmas
