use Rattle.cluster.proofs.seated.Seated.read.Goals as goal

pub returns-clause-at_once : goal.returns-clause-at_once
returns-clause-at_once g c = λ clean. record {
  between = c.read.new.self;
  middle = c.add.new.self.replies;
  asked = record { replies = c.in-Ok.replies.items; calls = c.in-Ok.ensures.at_once clean; given = c.add.ensures.replies };
  looked = c.answer_front.ensures.looked;
}

pub returns-clause-waits : goal.returns-clause-waits
returns-clause-waits g c = λ clean. record {
  between = c.read.new.self;
  middle = c.add.new.self.replies;
  asked = record { replies = c.in-Ok.replies.items; calls = c.in-Ok.ensures.waits clean; given = c.add.ensures.replies };
  looked = c.answer_front.ensures.looked;
}
