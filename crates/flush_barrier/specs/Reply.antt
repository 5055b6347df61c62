-- What a reply answers.
use Rattle.std.specs.Prelude.{◌≡◌, ℕ, List, Option}
use Rattle.flush_barrier.specs.declared.error_code.ErrorCode.{ErrorCode}
use Rattle.flush_barrier.specs.declared.session_id.SessionId.{SessionId}

-- a reply: to which session and under which cookie it goes, why the request was refused, and the bytes
pub record GivenReply : Type 0 where
  pub session : SessionId
  pub cookie : ℕ
  pub error : Option ErrorCode
  pub payload : List ℕ

-- the reply goes to this session under this cookie, with this error or none, and these bytes
pub record Answers (session : SessionId) (cookie : ℕ) (error : Option ErrorCode) (bytes : List ℕ)
    (reply : GivenReply) : Type 0 where
  pub to_session : reply.session ≡ session
  pub under_cookie : reply.cookie ≡ cookie
  pub with_error : reply.error ≡ error
  pub with_bytes : reply.payload ≡ bytes
