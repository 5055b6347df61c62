use Rattle.std.proofs.Common.{◌≢◌, ◌∙◌}
use Rattle.disk_model.specs.Error.{MayTell}
use Rattle.disk_model.specs.declared.error.DiskError.TheVariants.{ReadFault}
use Rattle.chain_core.specs.Stays.{begun_stays, ended_stays}
use Rattle.chain_tests.proofs.chain_core_tests.commit_next.Goals as goal

pub returns : goal.returns
returns g c =
    (ended_stays (λ s. s.about) c.begin_commit.new.self c.end_commit-ended.new.self c.end_commit-ended.result.0 (λ s. s.failures) (λ error. error ≢ ReadFault) c.begin_commit.new.self.state.commit c.end_commit-ended.result.1 c.end_commit-ended.ensures.idle c.end_commit-ended.ensures.ended c.end_commit-ended.ensures.stopped).board
    ∙ (begun_stays (λ s. s.about) c.args.node.now c.begin_commit.new.self c.in-Ok.begun (λ s. s.failures) (MayTell ReadFault) c.in-Ok.ensures.idle c.in-Ok.ensures.worked).board
