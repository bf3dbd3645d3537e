-- Which certificates are values of their type, this project's own: each number is in the range of its field, and each
-- list has the length of its array.
use Rattle.std.specs.Prelude.{◌≡◌, ℕ, ◌^◌, ◌<◌, List, length, All, IfSome}
use Rattle.kc_state.specs.State.{IsState}
use Rattle.kc_state.specs.Summary.{IsSummary}
use Rattle.kc_state.specs.User.{IsUserState}
use Rattle.kc_cert.specs.declared.certificate.Certificate.{Certificate}
use Rattle.kc_cert.specs.declared.certificate.Context.{Context}
use Rattle.kc_cert.specs.declared.certificate.Node.{Node}

-- 32 bytes
pub record IsDigest (digest : List ℕ) : Type 0 where
  pub bytes : All (λ b. b < 256) digest
  pub count : length digest ≡ 32

pub record IsContextValue (c : Context) : Type 0 where
  pub vector : c.key.vector < 256
  pub base : IfSome c.key.base (λ b. b < 2 ^ 64)
  pub summary : IsSummary c.summary

pub record IsNodeValue (n : Node) : Type 0 where
  pub address : n.site.at < 2 ^ 64
  pub state : IsState n.state

pub record IsCertificate (cert : Certificate) : Type 0 where
  pub image : IsDigest cert.digests.image
  pub config : IsDigest cert.digests.config
  pub user : IsUserState cert.user
  pub contexts : All IsContextValue cert.contexts
  pub nodes : All IsNodeValue cert.nodes
