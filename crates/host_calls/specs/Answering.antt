use Rattle.std.specs.Prelude.{◌≡◌, ℕ, [], ◌∷◌, Contains, Some, option_map}
use Rattle.host_port.specs.declared.request.Request.{Request}
use Rattle.message_scratch.specs.Messages.{blank_message, unread, slots_of, handles_in, handle_at}
use Rattle.message_scratch.specs.Changes.{fitting, with_bytes, after_read, after_seek, after_push, after_take}
use Rattle.resource_table.specs.Handles.{Handle, IsRising, numbers_of, handle_of, with_handle, without_handle}
use Rattle.resource_table.specs.Steps.{Told, Sheds}
use Rattle.world_rules.specs.Calls.{HostCall, arg}
use Rattle.world_rules.specs.Calls as CallIs
use Rattle.host_calls.specs.Listening.{without_listener}
use Rattle.host_calls.specs.declared.proc.Proc.{Proc}

-- What an answered call makes of the process, with its very streams. Its cost isn't added yet.

-- the streams of the old scratch message are shut, by rising slot, and there is a blank one of this tag
pub record Creates {E O P S L : Type 0} (tells : Told S) (tag : ℕ) (old new : Proc E O P S L) : Type 0 where
  pub shed : Sheds tells (handles_in (slots_of old.scratch)) old.shed new.shed
  pub is : new ≡ record old { scratch = Some (unread (blank_message tag)); shed = new.shed }

-- the stream of this number has gone from the table into the next slot
pub record Pushes {E O P S L : Type 0} (handle : ℕ) (old new : Proc E O P S L) : Type 0 where
  pub rises : IsRising old.table
  pub moved : Handle S
  pub found : handle_of handle old.table ≡ Some moved
  pub is : new ≡ record old {
    scratch = option_map (after_push moved) old.scratch;
    table = without_handle handle old.table;
  }

-- the stream in this slot has gone into the table
pub record Takes {E O P S L : Type 0} (place : ℕ) (old new : Proc E O P S L) : Type 0 where
  pub moved : Handle S
  pub found : handle_at (slots_of old.scratch) place ≡ Some moved
  pub rises : IsRising old.table
  pub other : Contains (numbers_of old.table) moved.number → ⊥
  pub is : new ≡ record old {
    scratch = option_map (after_take place) old.scratch;
    table = with_handle moved old.table;
  }

-- the stream of this number is shut, and is out of the table
pub record DropsStream {E O P S L : Type 0} (tells : Told S) (handle : ℕ) (old new : Proc E O P S L) : Type 0 where
  pub rises : IsRising old.table
  pub moved : Handle S
  pub found : handle_of handle old.table ≡ Some moved
  pub shed : Sheds tells (moved ∷ []) old.shed new.shed
  pub is : new ≡ record old { table = without_handle handle old.table; shed = new.shed }

-- what a call makes of the process
abbrev pub Makes : {E O P S L : Type 0} → Told S → HostCall → Request → (old new : Proc E O P S L) → Type 0
Makes tells CallIs.CreateData request old new = Creates tells (arg request 0) old new
Makes tells CallIs.WriteData request old new =
    new ≡ record old { scratch = option_map (λ s. with_bytes (fitting request.first s) s) old.scratch }
Makes tells CallIs.ReadData request old new =
    new ≡ record old { scratch = option_map (after_read (arg request 1)) old.scratch }
Makes tells CallIs.SeekData request old new =
    new ≡ record old { scratch = option_map (after_seek (arg request 0)) old.scratch }
Makes tells CallIs.PushStream request old new = Pushes (arg request 0) old new
Makes tells CallIs.TakeStream request old new = Takes (arg request 0) old new
Makes tells CallIs.DropStream request old new = DropsStream tells (arg request 0) old new
Makes tells CallIs.DropListener request old new =
    new ≡ record old { listeners = without_listener (arg request 0) old.listeners }
Makes tells _ request old new = new ≡ old
