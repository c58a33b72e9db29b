mod BlockSize
