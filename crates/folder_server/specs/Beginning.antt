-- A chain that goes on from the disks of a folder.
use Rattle.std.specs.Prelude.{◌≡◌, ℕ, List}
use Rattle.configurations.specs.Record.{Record}
use Rattle.local_store.specs.About.{About}
use Rattle.local_store.specs.Meaning.{Meaning}
use Rattle.folder.specs.Chain.{HasRecord, alone_after}
use Rattle.folder.specs.Disks.{IsSourceOf, member_of}
use Rattle.home_blocks.specs.Home.{HoldsSuperblock}
use Rattle.home_blocks.specs.Superblock.{Superblock}
use Rattle.home_blocks.specs.declared.version.Version.TheVariants.{Two}

-- The configuration's disk had recorded a chain, and the disk at this place is the source among these for it. The store keeps what that disk
-- means, at its front, which is told; recorded now is its member alone, in the next epoch.
pub record GoesOnFrom {S : Type 0} (about : S → About) (keeps : S → List ℕ → Type 0) (config : List ℕ) (disks : List (List ℕ)) (place front : ℕ) (store : S) (now : Record) : Type 0 where
  pub old : Record
  pub recorded : HasRecord old config
  pub meaning : Meaning
  pub source : IsSourceOf old.members disks place meaning
  pub sizes : (about store).geometry ≡ meaning.geometry
  pub at : (about store).front ≡ meaning.front
  pub told : front ≡ meaning.front
  pub kept : keeps store meaning.volume
  pub next : now ≡ alone_after old (member_of meaning)

-- these bytes have the superblock of a disk of version 2
abbrev pub HasVersionTwo : List ℕ → Type 0
HasVersionTwo bytes = (sb : Superblock) × HoldsSuperblock sb bytes × (sb.version ≡ Two)
