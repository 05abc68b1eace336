use Rattle.reply_body.proofs.json.id_text.Goals as goal

pub returns : goal.returns
returns c = rw (c.encode_lower-text.ensures.text, c.hyphenated.ensures, c.from_u128.ensures) at c.from_str.ensures.ok
