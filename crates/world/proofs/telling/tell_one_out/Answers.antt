use Rattle.world.proofs.TellingSteps.{own_output}
use Rattle.world.proofs.telling.tell_one_out.Goals as goal

pub returns : goal.returns
returns c = (
  c.reply.ensures.0,
  record {
    mid = c.reply.new.self;
    came = c.reply.result;
    delivers = c.reply.ensures.1;
    loss = c.is_lost-lost.ensures;
    hands = rw (← c.session-session.ensures) (record {
      out = c.put_out.ensures.out;
      own = own_output c.session-session.result c.put_out.result c.reply.new.self c.put_out.new.self c.put_out.ensures.out;
      places = c.put_out.ensures.places;
      over = c.put_out.ensures.stay_over;
      go_on = c.put_out.ensures.lawful;
    });
  },
)
