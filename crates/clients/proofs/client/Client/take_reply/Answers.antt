use Rattle.std.proofs.Common.{◌≡◌, true, false, Bool, Result, Ok, Err, List, [], ◌∷◌, refl, sym, ◌∙◌, ap}
use Rattle.std.specs.Prelude.{◌↔◌, IsTrue, OnOk, if◌then◌else◌, is_err}
use Rattle.nbd_session.specs.Replies.{answered, is_owed, reply_seen}
use Rattle.nbd_session.specs.Session.{State}
use Rattle.nbd_session.specs.declared.phase.Phase.{Phase}
use Rattle.nbd_session.specs.declared.phase.Phase.TheVariants.{Over}
use Rattle.world_model.specs.Chain.{reply_event}
use Rattle.world_model.specs.Event.{ClientEvent}
use Rattle.clients.specs.Calls.{is_closed}
use Rattle.clients.specs.Clients.{Client}
use Rattle.clients.proofs.CallSteps.{answered_over, open_is}
use Rattle.clients.proofs.client.Client.take_reply.Goals as goal

not_err : {T E A : Type 0} (r : Result T E) → is_err r ≡ false → OnOk r A → A
not_err (Ok x) none ok = ok
not_err (Err e) none ok = let wrong : true ≡ false = none in absurd cc

-- the session hasn't ended
not_ended : (closed : Bool) (phase : Phase) → (IsTrue closed ↔ (phase ≡ Over)) → closed ≡ false → phase ≡ Over → ⊥
not_ended closed phase same isnt over = let wrong : true ≡ false = sym (same.1 over) ∙ isnt in cc wrong

pub returns-then-ended : goal.returns-then-ended
returns-then-ended c =
    let session = c.self.inside.session in
    let over = c.closed-ended.ensures.0 c.if-ended.true in
    let done : c.done.new.self ≡ answered session (reply_seen c.args.reply) =
    not_err c.done.result (sym c.is_err.ensures.value ∙ c.if-is_err.false) c.done.ensures.ok in
    rw (← c.self.view_is) (
      [],
      (
        ap is_closed over,
        ap (λ (s : State). let client : Client = record { session = s; at = c.self.inside.at; told = c.self.inside.told } in client)
            (done ∙ answered_over session (reply_seen c.args.reply) over),
        refl,
      ),
    )

pub returns-else-ended : goal.returns-else-ended
returns-else-ended c =
    let session = c.self.inside.session in
    let running = open_is session.phase (not_ended c.closed-ended.result session.phase c.closed-ended.ensures c.if-ended.false) in
    let events : List ClientEvent = if is_owed session.phase session.in_flight then reply_event c.args.reply ∷ [] else [] in
    let done : c.done.new.self ≡ answered session (reply_seen c.args.reply) =
    not_err c.done.result (sym c.is_err.ensures.value ∙ c.if-is_err.false) c.done.ensures.ok in
    rw (← c.self.view_is) (
      events,
      (
        running,
        ap (λ (s : State). let client : Client = record { session = s; at = c.self.inside.at; told = c.self.inside.told } in client) done,
        refl,
      ),
    )
