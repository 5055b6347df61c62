-- How a chain goes on from the disks of a folder.
use Rattle.std.specs.Prelude.{◌≡◌, ◌≢◌, ◌⊎◌, ℕ, ◌≤◌, Bool, List, [], Option}
use Rattle.configurations.specs.Record.{Record}
use Rattle.configurations.specs.Store.{HoldsOldOrNew, Records}
use Rattle.configurations.specs.declared.refusal.Refusal.TheVariants.{NoRecord}
use Rattle.disk_model.specs.Part.{inside}
use Rattle.gate_journal.specs.Pair.{HoldsPair, Slots, last_number, newest}
use Rattle.gate_journal.specs.declared.batch.TheConstants.{MAX_NUMBER}
use Rattle.local_store.specs.About.{About, meaning_with}
use Rattle.local_store.specs.Meaning.{Meaning}
use Rattle.recovery.specs.declared.refusal.Refusal.TheVariants.{NoneReturned, NotInChain}
use Rattle.folder.specs.Chain.{HasNoRecord, HasRecord, LeavesOut, alone_after, config_part}
use Rattle.folder.specs.Disks.{IsSourceOf, NoneIsReturned, member_of}
use Rattle.folder.specs.Found.{member_in}
use Rattle.folder.specs.Refusal.{IsRefusedWith}
use Rattle.folder.specs.declared.refusal.Refusal.{Refusal}
use Rattle.folder.specs.declared.refusal.Refusal.TheVariants.{Chain, Choice, OthersRecorded}

-- The store keeps what the disk at this place meant, which is the source among these disks for the chain that the
-- configuration's disk had recorded; recorded now is its member alone, in the next epoch.
pub record GoesOn {S : Type 0} (about : S → About) (keeps : S → List ℕ → Type 0) (config : List ℕ) (disks : List (List ℕ)) (place : ℕ) (store : S) (now : Record) : Type 0 where
  pub old : Record
  pub recorded : HasRecord old config
  pub volume : List ℕ
  pub source : IsSourceOf old.members disks place (meaning_with (about store) volume)
  pub kept : keeps store volume
  pub next : now ≡ alone_after old (member_in (about store))

-- what a stop leaves of the configuration's disk, meanwhile: what it might have left before, or the record that it had,
-- or the one behind it, of the source among these disks alone
abbrev pub IsRecordedOver : (List ℕ → Type 0) → List ℕ → List (List ℕ) → List ℕ → Type 0
IsRecordedOver may_leave config disks c = may_leave c
    ⊎ ((old : Record) × (place : ℕ) × (m : Meaning) × HasRecord old config × IsSourceOf old.members disks place m
    × HoldsOldOrNew old (alone_after old (member_of m)) (inside config_part c))

-- The recorded chain has its source among these disks, and to go on from it would leave other members out unasked.
pub record SourceLeavesOut (alone : Bool) (config : List ℕ) (disks : List (List ℕ)) : Type 0 where
  pub old : Record
  pub recorded : HasRecord old config
  pub place : ℕ
  pub meaning : Meaning
  pub source : IsSourceOf old.members disks place meaning
  pub leaves : LeavesOut alone old

-- Without a record the answer is 161; with one, and without disks, 191; with disks of which none is the chain's, 192; with
-- a source that would leave others out unasked, 193.
pub record IsAnswered (alone : Bool) (size : ℕ) (config : List ℕ) (disks : List (List ℕ)) (told : Option Refusal) : Type 0 where
  pub without_record : HasNoRecord size config → IsRefusedWith (Chain NoRecord) told
  pub without_disks : (r : Record) → config_part.len ≤ size → HasRecord r config → disks ≡ [] → IsRefusedWith (Choice NoneReturned) told
  pub without_members : (r : Record) → config_part.len ≤ size → HasRecord r config → disks ≢ [] → NoneIsReturned r.members disks → IsRefusedWith (Choice NotInChain) told
  pub without_leave : config_part.len ≤ size → SourceLeavesOut alone config disks → IsRefusedWith OthersRecorded told

-- No epoch comes behind the recorded one, or the pair that has the record has no number left.
pub record IsAtEnd (config : List ℕ) : Type 0 where
  pub slots : Slots
  pub holds : HoldsPair slots (inside config_part config)
  pub old : Record
  pub newer : Records (newest slots) old
  pub end : (MAX_NUMBER ≤ old.epoch) ⊎ (MAX_NUMBER ≤ last_number (newest slots))
