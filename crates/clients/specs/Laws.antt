-- What holds of all sessions.
use Rattle.std.specs.Prelude.{[], All, List}
use Rattle.flush_barrier.specs.declared.session_id.SessionId.{SessionId}
use Rattle.nbd_session.specs.Lawful.{History, IsLawful, nothing, sent_by}
use Rattle.clients.specs.Clients.{AllGo, Client}

-- before a session began there are no histories
abbrev pub FirstHasNone : Type 0
FirstHasNone = AllGo [] (λ id. nothing)

-- what a session that has this history put out, or has waiting, is lawful for what was fed to it, and for the replies
abbrev pub IsLawfulFor : Client → History → Type 0
IsLawfulFor client history = IsLawful client.session.export history.fed (sent_by client.session history) history.asked history.replies

-- what each session put out is lawful for what was fed to it, and for the replies to it
abbrev pub OutputsAreLawful : Type 0
OutputsAreLawful = (clients : List Client) (histories : SessionId → History)
    → AllGo clients histories → All (λ client. IsLawfulFor client (histories client.session.id)) clients
