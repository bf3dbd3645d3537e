-- The two spellings of a certificate, this project's own. Numbers are little-endian. The first bytes and the versions
-- stand here and in the code, so that the one tests the other.
use Rattle.std.specs.Prelude.{ℕ, suc, cond, List, [], ◌∷◌, ◌++◌, length, flat_map, position, codes, Option, Some, None}
use Rattle.kc_state.specs.declared.state.AbsState.{AbsState}
use Rattle.kc_cert.specs.declared.certificate.Certificate.{Certificate}
use Rattle.kc_cert.specs.declared.certificate.Context.{Context}
use Rattle.kc_cert.specs.declared.certificate.Node.{Node}
use Rattle.kc_certfields.specs.Spelling.{u8_bytes, u32_bytes, u64_bytes, key_bytes, summary_bytes, state_bytes, user_bytes}
use Rattle.kc_certform.specs.Numbers.{is_same_state}

abbrev pub magic : List ℕ
magic = codes "ENTRYCRT"

abbrev pub context_bytes : Context → List ℕ
context_bytes c = key_bytes c.key ++ summary_bytes c.summary

-- all before the contexts
abbrev pub head_bytes : ℕ → Certificate → List ℕ
head_bytes version cert =
    magic ++ (u32_bytes version ++ (cert.digests.image ++ (cert.digests.config ++ (u8_bytes cert.stacks
    ++ (user_bytes cert.user ++ u32_bytes (length cert.contexts))))))

-- all before the nodes
abbrev pub contexts_bytes : ℕ → Certificate → List ℕ
contexts_bytes version cert =
    head_bytes version cert ++ (flat_map context_bytes cert.contexts ++ u32_bytes (length cert.nodes))

-- the context's number, the address, and 1 for the body of the handler that is called there
abbrev pub position_bytes : Node → List ℕ
position_bytes n = u32_bytes n.context ++ (u64_bytes n.site.at ++ u8_bytes (cond n.site.inside 1 0))

-- ---- version 1: each node with its state

abbrev pub node_bytes : ℕ → Node → List ℕ
node_bytes stacks n = position_bytes n ++ state_bytes stacks n.state

abbrev pub CertBytes1 : Certificate → List ℕ
CertBytes1 cert = contexts_bytes 1 cert ++ flat_map (node_bytes cert.stacks) cert.nodes

-- ---- version 2: a node whose state was written before has its number, counted from 1, in place of it

-- where the state is among those written so far
abbrev pub share_of : List AbsState → AbsState → Option ℕ
share_of written s = position (λ w. is_same_state w s) written

abbrev pub share_bytes : ℕ → AbsState → Option ℕ → List ℕ
share_bytes stacks s (Some k) = u32_bytes (suc k)
share_bytes stacks s None = u32_bytes 0 ++ state_bytes stacks s

-- the states written after this one
abbrev pub written_after : List AbsState → AbsState → Option ℕ → List AbsState
written_after written s (Some k) = written
written_after written s None = written ++ s ∷ []

unfoldable pub shared_bytes : ℕ → List AbsState → List Node → List ℕ
shared_bytes stacks written [] = []
shared_bytes stacks written (n ∷ ns) =
    let share = share_of written n.state in
    position_bytes n ++ (share_bytes stacks n.state share
    ++ shared_bytes stacks (written_after written n.state share) ns)

abbrev pub CertBytes2 : Certificate → List ℕ
CertBytes2 cert = contexts_bytes 2 cert ++ shared_bytes cert.stacks [] cert.nodes
