-- Why members of a chain stop, and which requests are refused.
use Rattle.std.specs.Prelude.{◌≡◌, ◌≢◌, ◌⊎◌, ℕ, true, false, None, Some, List, ◌∷◌, ◌++◌, All, Any}
use Rattle.flush_barrier.specs.declared.error_code.ErrorCode.TheVariants.{Io, NoMemory}
use Rattle.flush_barrier.specs.declared.session_id.SessionId.{SessionId}
use Rattle.chain_steps.specs.Node.{epoch_of}
use Rattle.chain_steps.specs.Place.{is_member}
use Rattle.chain_steps.specs.Waiting.{debt_of, is_outdated}
use Rattle.chain_steps.specs.declared.cause.Cause.TheVariants.{Disorder}
use Rattle.chain_steps.specs.declared.waiting.Waiting.{Waiting}
use Rattle.world_model.specs.Event.{Answered, ClientEvent, Done, Failed, Sent}
use Rattle.world_model.specs.Machine.{State}
use Rattle.world_model.specs.Requests.{Held}
use Rattle.chain_model.specs.Chain.{StandsFor}
use Rattle.chain_model.specs.Life.{Happening, Happens}
use Rattle.chain_model.specs.View.{Member, View}

-- a demand, or a token, is that of the session under this cookie
abbrev pub IsDemandOf : SessionId → ℕ → Held → Type 0
IsDemandOf session cookie d = (d.session ≡ session) × (d.cookie ≡ cookie)

abbrev pub IsTokenOf : SessionId → ℕ → Waiting → Type 0
IsTokenOf session cookie w = ((debt_of w).session ≡ session) × ((debt_of w).cookie ≡ cookie)

-- One member became another, and no other changed.
pub record OneChanged (v w : View) : Type 0 where
  pub above : List Member
  pub old : Member
  pub new : Member
  pub below : List Member
  pub were : v.members ≡ above ++ old ∷ below
  pub are : w.members ≡ above ++ new ∷ below

-- The request waited at a member that has stopped then.
pub record IsOfStopped (v w : View) (session : SessionId) (cookie : ℕ) : Type 0 where
  pub changed : OneChanged v w
  pub stopped : changed.new.node.stopped ≢ None
  pub waited : Any (IsDemandOf session cookie) changed.old.demands ⊎ Any (IsTokenOf session cookie) changed.old.node.waiting

-- It was a write that was submitted in an older epoch, and had no number when its member's Turn came.
pub record IsOutdated (v w : View) (session : SessionId) (cookie : ℕ) : Type 0 where
  pub changed : OneChanged v w
  pub turns : changed.new.node.turned ≡ true
  pub waited : Any (λ t. IsTokenOf session cookie t × (is_outdated (epoch_of changed.new.node) t ≡ true)) changed.old.node.waiting

-- Its member isn't in the chain that it was told: it has joined, and wasn't told that.
pub record IsOfNewcomer (v w : View) (session : SessionId) (cookie : ℕ) : Type 0 where
  pub changed : OneChanged v w
  pub newcomer : is_member changed.old.node.place ≡ false
  pub waited : Any (IsDemandOf session cookie) changed.old.demands

-- A request was refused for memory; or with EIO, since its member has stopped, since it had no number at a Turn, or since its member wasn't
-- told the record by which it joined.
abbrev pub HasPlea : View → View → ClientEvent → Type 0
HasPlea v w (Sent session cookie request) = Unit {0}
HasPlea v w (Answered session cookie (Done bytes)) = Unit {0}
HasPlea v w (Answered session cookie (Failed NoMemory)) = Unit {0}
HasPlea v w (Answered session cookie (Failed Io)) = IsOfStopped v w session cookie ⊎ (IsOutdated v w session cookie ⊎ IsOfNewcomer v w session cookie)

-- No request is refused with EIO but for such a reason.
abbrev pub RefusalsHavePleas : Type 0
RefusalsHavePleas = (size : ℕ) (v w : View) (h : Happening) (events : List ClientEvent) → Happens size h v w events → All (HasPlea v w) events

-- No member stops because of a message or a front that no chain has.
abbrev pub HasNoDisorder : View → Type 0
HasNoDisorder v = All (λ m. m.node.stopped ≢ Some Disorder) v.members

abbrev pub StopsHaveCauses : Type 0
StopsHaveCauses = (size : ℕ) (v w : View) (s : State) (h : Happening) (events : List ClientEvent) → StandsFor size v s → Happens size h v w events → HasNoDisorder v → HasNoDisorder w
