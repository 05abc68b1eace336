use Rattle.std.proofs.Common.{ap, sym, ◌∙◌, take, drop, ◌++◌, Some}
use Rattle.serve_outside.proofs.Bytes.{read_on}
use Rattle.serve_outside.proofs.mem_link.MemLink.next_bytes.Goals as goal

pub returns-clause-heard : goal.returns-clause-heard
returns-clause-heard c =
    ap Some (read_on _ _ _ _ (c.copy_from-count.ensures.copied ∙ ap (λ bytes. take c.copy_from-count.result (drop c.args.self.now.at bytes)) c.as_slice.ensures))

pub invariant_of-self-clause-heard : goal.invariant_of-self-clause-heard
invariant_of-self-clause-heard c =
    let count = c.copy_from-count.result in
    let came = read_on _ _ _ _ (c.copy_from-count.ensures.copied ∙ ap (λ bytes. take count (drop c.args.self.now.at bytes)) c.as_slice.ensures) in
    ap (λ s. s.heard) c.read-self.ensures ∙ ap (λ h. h ++ take count c.copy_from-count.new.into) c.args.self.now.heard ∙ sym came
