-- What the calls of a link promise.
use Rattle.std.specs.Prelude.{◌≡◌, ℕ, List, [], ◌∷◌, ◌++◌}
use Rattle.crossbeam_channel.specs.Claims.{view}
use Rattle.crossbeam_channel.specs.Ends.{sends_on, receives_on, ruled_capacity}
use Rattle.links.specs.declared.receiving.Receiving.{Receiving}
use Rattle.links.specs.declared.refusal.Refusal.{Refusal}
use Rattle.links.specs.declared.refusal.Refusal.TheVariants.{LinkClosed}
use Rattle.links.specs.declared.sending.Sending.{Sending}
use Rattle.links.specs.Rule.{StartsWith}

module _ {T : Type 0} where
  -- all that the sender has put, in order
  abbrev pub put_by : Sending T → List T
  put_by s = (view s.pass).put

  -- all that the receiver has taken, in order
  abbrev pub taken_by : Receiving T → List T
  taken_by r = (view r.pass).taken

  -- what the receiver saw to come, in order: these items lie foremost in the link
  abbrev pub coming_to : Receiving T → List T
  coming_to r = (view r.pass).coming

  -- how many items the sender's link holds at most
  abbrev pub capacity_of : Sending T → ℕ
  capacity_of s = ruled_capacity (sends_on s.end)

  -- the two are the ends of one link
  abbrev pub IsOneLink : Sending T → Receiving T → Type 0
  IsOneLink s r = receives_on r.end ≡ sends_on s.end

  -- the sender stays at its link
  abbrev pub IsSameSender : Sending T → Sending T → Type 0
  IsSameSender s t = sends_on t.end ≡ sends_on s.end

  -- the receiver stays at its link
  abbrev pub IsSameReceiver : Receiving T → Receiving T → Type 0
  IsSameReceiver r t = receives_on t.end ≡ receives_on r.end

  -- a link of this capacity, in which nothing was put
  pub record IsNewLink (capacity : ℕ) (s : Sending T) (r : Receiving T) : Type 0 where
    pub one : IsOneLink s r
    pub room : capacity_of s ≡ capacity
    pub put : put_by s ≡ []
    pub taken : taken_by r ≡ []
    pub coming : coming_to r ≡ []

  -- the item was put behind all that the sender put before
  abbrev pub IsPut : Sending T → T → Sending T → Type 0
  IsPut s item t = put_by t ≡ put_by s ++ item ∷ []

  -- nothing was put, and this very item comes back
  pub record IsHandedBack (s : Sending T) (item : T) (t : Sending T) (answer : Refusal × T) : Type 0 where
    pub closed : answer.0 ≡ LinkClosed
    pub back : answer.1 ≡ item
    pub put : put_by t ≡ put_by s

  -- The item was taken behind all that was taken before. Where something was seen to come, the item is the first of it, and
  -- the rest of it comes next.
  pub record IsTaken (r : Receiving T) (item : T) (t : Receiving T) : Type 0 where
    pub taken : taken_by t ≡ taken_by r ++ item ∷ []
    pub coming : StartsWith (item ∷ coming_to t) (coming_to r)

  -- nothing was taken, and all that was seen to come had been taken
  pub record IsFoundClosed (r t : Receiving T) (answer : Refusal) : Type 0 where
    pub closed : answer ≡ LinkClosed
    pub taken : taken_by t ≡ taken_by r
    pub coming : coming_to t ≡ coming_to r
    pub all : coming_to r ≡ []

  -- What was put is what was taken, and then what comes. So what was taken begins what was put, in order, each item once.
  abbrev pub IsInOrder : Sending T → Receiving T → Type 0
  IsInOrder s r = put_by s ≡ taken_by r ++ coming_to r

  -- two ends that were only looked at
  pub record AreSame (s : Sending T) (r : Receiving T) (s' : Sending T) (r' : Receiving T) : Type 0 where
    pub sender : IsSameSender s s'
    pub receiver : IsSameReceiver r r'
    pub put : put_by s' ≡ put_by s
    pub taken : taken_by r' ≡ taken_by r
    pub coming : StartsWith (coming_to r') (coming_to r)
