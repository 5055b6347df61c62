-- How a tail that takes the committed front and holds it keeps what its chain stands for: lemmas.
use Rattle.std.proofs.Common.{◌≡◌, ◌≢◌, ℕ, zero, suc, ◌<◌, ◌≤◌, max, true, false, Option, None, Some, List, [], ◌∷◌, ◌++◌, refl, sym, ◌∙◌, ap, subst, inl, inr, arith}
use Rattle.std.specs.Prelude.{is_some, nat_lt}
use Rattle.std.specs.List.{Contains}
use Rattle.std.proofs.lemmas.Bool.{cases_Bool, cases_eq}
use Rattle.std.proofs.lemmas.Bool.Decides.{nat_tests}
use Rattle.std.proofs.lemmas.List.{append-nil}
use Rattle.board.specs.Seats.{FoundFront}
use Rattle.chain_steps.specs.Node.{NodeState, Stepped, epoch_of, last_of}
use Rattle.chain_steps.specs.Place.{is_tail, predecessor_of}
use Rattle.chain_steps.specs.Steps.{hold, hold_by, know, looked_front, send, stop}
use Rattle.chain_steps.specs.declared.cause.Cause.TheVariants.{Disorder}
use Rattle.chain_steps.specs.declared.found.Found.{Found}
use Rattle.chain_steps.specs.declared.found.Found.TheVariants.{Looked}
use Rattle.chain_steps.specs.declared.message.Message.{Message}
use Rattle.chain_steps.specs.declared.message.Message.TheVariants.{Ack}
use Rattle.chain_steps.specs.declared.message.Sent.{Sent}
use Rattle.world_model.specs.Chain.{ArePutOut}
use Rattle.world_model.proofs.Counting.{all_at}
use Rattle.world_model.specs.Machine.{Plays}
use Rattle.world_model.specs.Requests as requests
use Rattle.world_model.proofs.Runs.{plays_nothing, plays_then}
use Rattle.chain_model.specs.Chain.{HasApplied, IsTold, MembersStand}
use Rattle.chain_model.proofs.Changing.{changes, were}
use Rattle.chain_model.specs.Holding.{Holders}
use Rattle.chain_model.specs.Laws.{HasSent, HeldStays, HoldsFront, with_members}
use Rattle.chain_model.specs.Links.{Net, Node, hops_from}
use Rattle.chain_model.proofs.MemberSteps.{reach}
use Rattle.chain_model.proofs.NetSteps.{Reach, node_here}
use Rattle.chain_model.proofs.Ordering.{apart_from, order_holds, sends_nothing, works_of}
use Rattle.chain_model.proofs.PassingSteps.{fits_most, its_raised, knows_itself, sends_none}
use Rattle.chain_model.proofs.PlaceSteps.{is_among}
use Rattle.chain_model.specs.View.{Member, View, net_of, node_of, slot_of}

-- ---- it holds what it knows

abbrev holding : Member → Member
holding m = record m { node = record m.node { holds = true } }

-- a tail that knows the committed front holds it
holds_known : (size : ℕ) (v : View) (above : List Member) (m : Member) (below : List Member) → m.node.stopped ≡ None → m.node.known ≡ v.told.front → epoch_of m.node ≡ v.recorded.epoch → is_tail m.node.place ≡ true
    → Plays size (MembersStand size (with_members v (above ++ m ∷ below))) (MembersStand size (with_members v (above ++ record m { node = record m.node { holds = true } } ∷ below))) []
holds_known size v above m below runs known now ends = changes size v above m (holding m) below v.links v.submits []
    (λ s line backed stands. (
      line,
      backed,
      fits_most size v above m (holding m) below v.links v.submits [] s line backed stands (record {
        slot = refl;
        incarnation = refl;
        order = order_holds v.recorded v.before above m (holding m) below stands.slots refl v.links v.links stands.places runs v.told.front line
            (works_of v.recorded v.before above m (holding m) below stands.slots refl v.links v.links [] [] (sends_nothing m.node)
            (apart_from v.recorded v.before above m (holding m) below stands.slots refl v.links v.links stands.places runs) (sends_none (slot_of m) v.links))
            (stands.order, stands.holders) (ap (λ k. record (node_of m.node) { known = k; holds = true }) known) now ends;
        volume = λ is. is;
        told = all_at (λ x. IsTold v.recorded v.before x.node) above m below stands.places.told;
        behind = λ late. late;
        linked = stands.links;
        numbers = all_at HasApplied above m below stands.numbers;
        next = refl;
        disk = refl;
        raised = its_raised size v above m below s line backed stands;
        tokens = λ next all. all;
        submitted = λ next all. all;
        clients = plays_nothing size (requests.StandsFor backed (were size v above m m below v.links v.submits [] line));
      }),
    ))

-- What holds of both steps that holding may bring about holds of the one that it does.
pub each_held : (P : Stepped → Type 0) (node : NodeState) (front : FoundFront) → node.found ≡ Some (Looked front) → (last_of node < front.number → P (stop Disorder node))
    → P (know front.number (max node.known front.number) (record node { holds = true })) → P (hold node)
each_held P node front found further knows = subst P (sym (ap (λ (o : Option Found). hold_by (looked_front o) node) found)) (elim (cases_Bool (nat_lt (last_of node) front.number)) [
  | inl far ↦ let above : last_of node < front.number = grind (arith, nat_tests) in rw far (further above)
  | inr near ↦ rw near knows
])

-- what it does where the front is at most its last write
abbrev holding_at : ℕ → NodeState → Stepped
holding_at front node = know front front (record node { holds = true })

hold_is : (node : NodeState) (front : FoundFront) → node.found ≡ Some (Looked front) → node.known ≤ front.number → front.number ≤ last_of node → hold node ≡ holding_at front.number node
hold_is node front found known within = each_held (λ (x : Stepped). x ≡ holding_at front.number node) node front found (λ far. absurd (omega arith)) (
    let most : max node.known front.number ≡ front.number = omega arith in ap (λ k. know front.number k (record node { holds = true })) most
    )

same_sent : (to : Option ℕ) (message : Message) (node : NodeState) → send to message (record node { holds = true }) ≡ send to message node
same_sent None message node = refl
same_sent (Some slot) message node = refl

pub holds_front : HoldsFront
holds_front size v above m below front links events runs found committed now ends sent out s (line, backed, stands) =
    let reached : Reach v.told.front line m.node = reach size v above m below s line backed runs stands in
    let step : hold m.node ≡ holding_at front.number m.node = hold_is m.node front found (omega (arith, reached.known, committed)) (omega (arith, reached.has, committed)) in
    let most : front.number ≡ max m.node.known front.number = omega (arith, reached.known, committed) in
    let knows = knows_itself size v above m below runs front.number front.number links events (omega (arith, committed)) (omega (arith, committed)) most
    (subst (λ (x : Stepped). ArePutOut x.out.replies events) step out)
    (subst (λ (ms : List Sent). HasSent (slot_of m) ms v.links links) (same_sent (predecessor_of m.node.place) (Ack front.number) m.node) (subst (λ (x : Stepped). HasSent (slot_of m) x.out.messages v.links links) step sent)) in
    let holds = holds_known size (record v { links = links }) above (record m { node = (know front.number front.number m.node).node }) below runs committed now ends in
    let both = plays_then size (MembersStand size (with_members v (above ++ m ∷ below))) (MembersStand size (record v { members = above ++ record m { node = (know front.number front.number m.node).node } ∷ below; links = links }))
    (MembersStand size (record v { members = above ++ record m { node = (holding_at front.number m.node).node } ∷ below; links = links })) events [] knows holds in
    subst (λ (x : Stepped). Plays size (MembersStand size (with_members v (above ++ m ∷ below))) (MembersStand size (record v { members = above ++ record m { node = x.node } ∷ below; links = links })) events) (sym step)
    (subst (Plays size (MembersStand size (with_members v (above ++ m ∷ below))) (MembersStand size (record v { members = above ++ record m { node = (holding_at front.number m.node).node } ∷ below; links = links }))) (append-nil events) both)
    s (line, backed, stands)

-- ---- the front stays

held_down : (w : Net) (s front : ℕ) (prev : Option ℕ) (ys : List ℕ) → Contains ys s → (w.nodes s).stopped ≡ false → (w.nodes s).holds ≡ true → Holders front (hops_from w prev ys) → (w.nodes s).known ≡ front
held_down w s front prev [] (k, lt, is) runs holds holders = absurd (omega arith)
held_down w s front prev (y ∷ ys) there runs holds (held, others) = elim (cases_eq y s) [
  | inl same ↦ subst (λ (k : ℕ). (w.nodes k).stopped ≡ false → (w.nodes k).holds ≡ true → (w.nodes k).known ≡ front) same (λ r h. (held r h).known) runs holds
  | inr other ↦ held_down w s front (Some y) ys (later there other) runs holds others
]
  where
    later : Contains (y ∷ ys) s → y ≢ s → Contains ys s
    later (zero, lt, is) apart = absurd (apart is)
    later (suc k, lt, is) apart = (k, omega arith, is)

pub held_stays : HeldStays
held_stays size v above m below s ((line, backed, stands), joins) runs holds =
    let told : IsTold v.recorded v.before m.node = all_at (λ x. IsTold v.recorded v.before x.node) above m below stands.places.told in
    let node = node_here above m below stands.slots in
    sym (ap (λ (n : Node). n.known) node)
    ∙ held_down (net_of v.recorded v.links (above ++ m ∷ below)) (slot_of m) v.told.front None _ (is_among v.recorded (slot_of m) m.node.incarnation (told.there runs))
    (ap (λ (n : Node). n.stopped) node ∙ ap is_some runs) (ap (λ (n : Node). n.holds) node ∙ holds) stands.holders
