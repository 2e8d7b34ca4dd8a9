mod AttrParts
mod TimesParts
